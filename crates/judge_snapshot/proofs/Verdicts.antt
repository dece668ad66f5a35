-- Verdicts on commits are verdicts on their calls.
use Rattle.std.proofs.Common.{List, [], ◌∷◌, sym, subst}
use Rattle.judge_object.specs.declared.line.Line.{Line}
use Rattle.judge_object.specs.Rules.{Rules}
use Rattle.judge_object.specs.Orders.{IsLinearizable}
use Rattle.judge_search.specs.Calls.{calls_of}
use Rattle.judge_search.specs.Walk.{IsWhole}
use Rattle.judge_snapshot.specs.WriteSets.{WriteSets, AreWriteSets}
use Rattle.judge_snapshot.specs.Snapshots.{IsStrongSnapshotIsolated}
use Rattle.judge_snapshot.specs.Possible.{past_of}
use Rattle.judge_snapshot.specs.Trimmed.{Claim, trimmed}
use Rattle.judge_snapshot.specs.Horizons.{AreCommitsOf}
use Rattle.judge_snapshot.proofs.Whole.{whole_claims}
use Rattle.judge_snapshot.proofs.TrimmedLaw.{strong_is_trimmed}

module _ {O : Type 0} (lines : List (Line O)) (commits : List (Line (Claim O))) (a : AreCommitsOf lines commits) where
  pub whole_commits : IsWhole (calls_of lines) → IsWhole (calls_of commits)
  whole_commits h = subst IsWhole (sym a.are) (whole_claims a.claims (subst IsWhole (sym a.calls) h))

module _ {S O R W : Type 0} (X : Rules S O R) (V : WriteSets S O W) (laws : AreWriteSets X V) (s : S)
    (lines : List (Line O)) (commits : List (Line (Claim O))) (a : AreCommitsOf lines commits) where
  pub isolated : IsLinearizable (trimmed X V) (past_of s ∷ []) (calls_of commits) →
      IsStrongSnapshotIsolated X V s (calls_of lines)
  isolated h =
      subst (IsStrongSnapshotIsolated X V s) a.calls
      ((strong_is_trimmed X V laws s a.claims a.horizons).1
      (subst (IsLinearizable (trimmed X V) (past_of s ∷ [])) a.are h))

  pub isolated_only : IsStrongSnapshotIsolated X V s (calls_of lines) →
      IsLinearizable (trimmed X V) (past_of s ∷ []) (calls_of commits)
  isolated_only h =
      subst (IsLinearizable (trimmed X V) (past_of s ∷ [])) (sym a.are)
      ((strong_is_trimmed X V laws s a.claims a.horizons).0
      (subst (IsStrongSnapshotIsolated X V s) (sym a.calls) h))
