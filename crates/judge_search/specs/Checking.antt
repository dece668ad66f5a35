-- How an order that was found is checked, call by call.
use Rattle.std.specs.Prelude.{◌≡◌, ◌<◌, ◌==◌, ℕ, All, List, [], length}
use Rattle.std.specs.List.{list_any}
use Rattle.judge_object.specs.Rules.{Rules}
use Rattle.judge_object.specs.Call.{Call}
use Rattle.judge_search.specs.declared.point.Point.{Point}
use Rattle.judge_search.specs.Configurations.{start, CallsReach}
use Rattle.judge_search.specs.Calls.{rest_of}
use Rattle.judge_search.specs.Walking.{AreDistinct}
use Rattle.judge_search.specs.Point.{made_of}
use Rattle.judge_search.specs.Judging.{calls_at, KeepTurns}

-- from a state on, the calls at these places, each once, may come next one after the other and give
-- their replies; they are those that have a place at a point, whose state they leave
pub record HavePlaces {S O R : Type 0} (X : Rules S O R) (s : S) (calls : List (Call O))
    (places : List ℕ) (point : Point S) : Type 0 where
  pub reaches : CallsReach X (start s calls) (calls_at X calls places)
      (record { rest = rest_of (made_of point) 0 calls; state = point.machine })
  pub made : (p : ℕ) → made_of point p ≡ list_any (λ other. other == p) places
  pub distinct : AreDistinct places
  pub turns : KeepTurns X calls [] places
  pub within : All (λ place. place < length calls) places
