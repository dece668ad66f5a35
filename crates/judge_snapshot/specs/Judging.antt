-- The verdicts on a history.
use Rattle.std.specs.Prelude.{◌≡◌, ℕ, List, [], ◌∷◌, map}
use Rattle.judge_object.specs.Rules.{Rules}
use Rattle.judge_object.specs.Call.{Call}
use Rattle.judge_object.specs.Orders.{IsMerge}
use Rattle.judge_search.specs.Configurations.{start}
use Rattle.judge_search.specs.Searching.{IsUndecided}
use Rattle.judge_snapshot.specs.WriteSets.{WriteSets}
use Rattle.judge_snapshot.specs.Snapshots.{IsStrongSnapshotIsolated}
use Rattle.judge_snapshot.specs.Possible.{past_of}
use Rattle.judge_snapshot.specs.Trimmed.{Claim, claim_call, calls_in, trimmed}
use Rattle.judge_snapshot.specs.declared.judging.SnapshotVerdict.{SnapshotVerdict}
use Rattle.judge_snapshot.specs.declared.judging.SnapshotVerdict.TheVariants as verdict

module _ {S O R W : Type 0} (X : Rules S O R) (V : WriteSets S O W) where
  -- a search for a linearization of the commits of calls made this many steps without a result
  pub record EndedUndecided (s : S) (calls : List (Call O)) (steps : ℕ) : Type 0 where
    pub claims : List (Claim O)
    pub are : calls_in claims ≡ calls
    -- the commits in the order in which the search keeps them
    pub kept : List (Call (Claim O))
    pub merges : IsMerge (map claim_call claims) kept
    pub most : ℕ
    pub undecided : IsUndecided (trimmed X V) (start (past_of s ∷ []) kept) steps most

  -- what a verdict says of a history: it is strong snapshot isolated, it is not, or the search made
  -- all its steps without a result
  abbrev pub IsVerdictOn : S → List (Call O) → ℕ → SnapshotVerdict → Type 0
  IsVerdictOn s calls steps verdict.Isolated = IsStrongSnapshotIsolated X V s calls
  IsVerdictOn s calls steps verdict.NotIsolated = IsStrongSnapshotIsolated X V s calls → ⊥
  IsVerdictOn s calls steps verdict.Undecided = EndedUndecided s calls steps
