-- Commits as operations of a derived object that forgets the versions that no later call can have
-- as its snapshot. Without this, no two branches of a search meet. Each commit names a time, its
-- horizon: all calls that may come after it in an order begin at the horizon or later.
use Rattle.std.specs.Prelude.{◌≤◌, ◌↔◌, ℕ, Some, None, List, [], ◌∷◌, map, nat_lt, codes, if◌then◌else◌}
use Rattle.judge_object.specs.Rules.{Rules}
use Rattle.judge_object.specs.Call.{Call}
use Rattle.judge_object.specs.Orders.{IsLinearizable}
use Rattle.judge_snapshot.specs.WriteSets.{WriteSets}
use Rattle.judge_snapshot.specs.Snapshots.{Version, Each, strong_needs, IsStrongSnapshotIsolated}
use Rattle.judge_snapshot.specs.declared.outcome.Outcome.{Outcome}
use Rattle.judge_snapshot.specs.Possible.{Past, past_of, outcome_text, all_longer, answered}

-- the commit of a call with its horizon
pub record Claim (O : Type 0) : Type 0 where
  pub call : Call O
  pub horizon : ℕ

module _ {O : Type 0} where
  -- a commit as a call of the derived object: it was made in the interval of the call
  abbrev pub claim_call : Claim O → Call (Claim O)
  claim_call c = record {
    client = c.call.client;
    begin = c.call.begin;
    end = c.call.end;
    op = c;
    reply = Some (codes "ok");
  }

  -- the calls of commits
  abbrev pub calls_in : List (Claim O) → List (Call O)
  calls_in claims = map (λ c. c.call) claims

  -- a call that may come after another one in an order, since it had not ended when the other one
  -- began, begins at the other one's horizon or later
  abbrev pub IsInHorizon : Claim O → Claim O → Type 0
  IsInHorizon c d = c.call.begin ≤ d.call.end → c.horizon ≤ d.call.begin

  -- this holds of each two of the calls
  abbrev pub HorizonsHold : List (Claim O) → Type 0
  HorizonsHold claims = Each (λ c. Each (IsInHorizon c) claims) claims

module _ {S W : Type 0} where
  -- versions without those before a time: the newest version whose call ended before the time
  -- becomes the first state
  abbrev pub trim_versions : ℕ → S → List (Version S W) → Past S W
  trim_versions horizon first [] = record { first = first; versions = [] }
  trim_versions horizon first (v ∷ versions) =
      if nat_lt v.span.end horizon then record { first = v.state; versions = [] }
      else (
      let rest = trim_versions horizon first versions in
      record { first = rest.first; versions = v ∷ rest.versions }
      )

  -- a version history without the versions before a time
  abbrev pub trim : ℕ → Past S W → Past S W
  trim horizon past = trim_versions horizon past.first past.versions

module _ {S O R W : Type 0} (X : Rules S O R) (V : WriteSets S O W) where
  -- the rules of the derived object
  abbrev pub trimmed : Rules (List (Past S W)) (Claim O) Outcome
  trimmed = record {
    run = λ pasts c.
        answered X V strong_needs pasts
        (map (trim c.horizon) (all_longer X V strong_needs pasts c.call));
    text = outcome_text;
    none = record {
      call = record { client = 0; begin = 0; end = 0; op = X.none; reply = None };
      horizon = 0;
    };
  }

  -- a history is strong snapshot isolated if and only if its commits, with horizons that hold, are
  -- linearizable by these rules
  abbrev pub StrongIsTrimmed : Type 0
  StrongIsTrimmed = (s : S) (claims : List (Claim O)) → HorizonsHold claims →
      IsStrongSnapshotIsolated X V s (calls_in claims)
      ↔ IsLinearizable trimmed (past_of s ∷ []) (map claim_call claims)
