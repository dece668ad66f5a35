-- The commits of the calls of a history, with their horizons.
use Rattle.std.specs.Prelude.{◌≡◌, ◌≤◌, ℕ, List, map}
use Rattle.judge_object.specs.declared.span.Span.{Span}
use Rattle.judge_object.specs.declared.line.Line.{Line}
use Rattle.judge_search.specs.Calls.{calls_of}
use Rattle.judge_snapshot.specs.Snapshots.{Each}
use Rattle.judge_snapshot.specs.Trimmed.{Claim, claim_call, calls_in, HorizonsHold}

-- a time is a horizon of a call that begins at another time: the calls that end then or later
-- begin at the horizon or later
abbrev pub IsHorizon : List Span → ℕ → ℕ → Type 0
IsHorizon spans begin horizon = Each (λ span. begin ≤ span.end → horizon ≤ span.begin) spans

module _ {O : Type 0} where
  -- these lines are those of the commits of the calls of other lines, with horizons that hold
  pub record AreCommitsOf (lines : List (Line O)) (commits : List (Line (Claim O))) : Type 0 where
    pub claims : List (Claim O)
    pub calls : calls_in claims ≡ calls_of lines
    pub are : calls_of commits ≡ map claim_call claims
    pub horizons : HorizonsHold claims
