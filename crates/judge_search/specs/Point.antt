-- Points of a search among the calls of a history.
use Rattle.std.specs.Prelude.{◌≡◌, ℕ, Bool, length, get_or}
use Rattle.judge_object.specs.Rules.{Rules}
use Rattle.judge_search.specs.declared.calls.Calls.{Calls}
use Rattle.judge_search.specs.declared.point.Point.{Point}
use Rattle.judge_search.specs.Marks.{is_made}
use Rattle.judge_search.specs.Calls.{calls_of, no_call, rest_of, can_come, tries_from}
use Rattle.judge_search.specs.Configurations.{Configuration}
use Rattle.judge_search.specs.Views.{Views}

-- which calls have a place
abbrev pub made_of : {M : Type 0} → Point M → ℕ → Bool
made_of point = is_made point.low point.beyond.items

module _ {S O R : Type 0} (X : Rules S O R) where
  -- what is left there, and the state
  abbrev pub point_at : Calls O → Point S → Configuration S O
  point_at calls point = record {
    rest = rest_of (made_of point) 0 (calls_of calls.lines.items);
    state = point.machine;
  }

  -- how a search sees such points
  abbrev pub point_views : Calls O → Views (Point S) S O
  point_views calls = record {
    at = point_at calls;
    count = length calls.lines.items;
    call = λ place. get_or (calls_of calls.lines.items) place (no_call X);
    made = made_of;
    can = λ point. can_come X (made_of point) (calls_of calls.lines.items);
    tries = λ point. tries_from (made_of point) (calls_of calls.lines.items);
  }

  -- the operation of the call at a place leads from a point's state to another, with this reply
  abbrev pub RunsTo : Calls O → Point S → ℕ → S × R → Type 0
  RunsTo calls point place made =
      X.run point.machine (get_or (calls_of calls.lines.items) place (no_call X)).op ≡ made
