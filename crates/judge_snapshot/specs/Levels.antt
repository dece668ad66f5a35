-- The levels of snapshot isolation, by how much of the order of the calls they keep.
use Rattle.std.specs.Prelude.{◌↔◌, List}
use Rattle.judge_object.specs.declared.level.Level.{Level}
use Rattle.judge_object.specs.declared.level.Level.TheVariants as level
use Rattle.judge_object.specs.Rules.{Rules}
use Rattle.judge_object.specs.Call.{Call}
use Rattle.judge_object.specs.Relaxed.{relax, PendingAreLast}
use Rattle.judge_snapshot.specs.WriteSets.{WriteSets}
use Rattle.judge_snapshot.specs.Snapshots.{IsStrongSnapshotIsolated, IsSessionSnapshotIsolated, IsSnapshotIsolated}

module _ {S O R W : Type 0} (X : Rules S O R) (V : WriteSets S O W) where
  -- a history is snapshot isolated at the level that keeps as much of the order of the calls as a
  -- level of consistency
  abbrev pub IsIsolatedAt : Level → S → List (Call O) → Type 0
  IsIsolatedAt level.Linearizable s calls = IsStrongSnapshotIsolated X V s calls
  IsIsolatedAt level.Sequential s calls = IsSessionSnapshotIsolated X V s calls
  IsIsolatedAt level.Serializable s calls = IsSnapshotIsolated X V s calls

  -- a history is snapshot isolated at a level if and only if it is strong snapshot isolated
  -- without the order that the level does not keep
  abbrev pub LevelIsStrongWithoutOrder : Type 0
  LevelIsStrongWithoutOrder = (kept : Level) (s : S) (calls : List (Call O)) →
      PendingAreLast calls →
      IsIsolatedAt kept s calls ↔ IsStrongSnapshotIsolated X V s (relax kept calls)
