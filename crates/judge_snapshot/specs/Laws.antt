-- The laws that reduce the levels of snapshot isolation to levels of consistency of commits. They
-- hold for any sequential object with write sets.
use Rattle.std.specs.Prelude.{◌↔◌, [], ◌∷◌, List, map}
use Rattle.judge_object.specs.Rules.{Rules}
use Rattle.judge_object.specs.Call.{Call}
use Rattle.judge_object.specs.Orders.{IsLinearizable}
use Rattle.judge_object.specs.Levels.{IsSequentiallyConsistent, IsSerializable}
use Rattle.judge_snapshot.specs.WriteSets.{WriteSets}
use Rattle.judge_snapshot.specs.Snapshots.{IsStrongSnapshotIsolated, IsSessionSnapshotIsolated, IsSnapshotIsolated}
use Rattle.judge_snapshot.specs.Snapshots.{strong_needs, session_needs, plain_needs}
use Rattle.judge_snapshot.specs.Possible.{commits, past_of, claim}

module _ {S O R W : Type 0} (X : Rules S O R) (V : WriteSets S O W) where
  -- a history is strong snapshot isolated if and only if its commits are linearizable
  abbrev pub StrongIsLinearizable : Type 0
  StrongIsLinearizable = (s : S) (calls : List (Call O)) →
      IsStrongSnapshotIsolated X V s calls
      ↔ IsLinearizable (commits X V strong_needs) (past_of s ∷ []) (map claim calls)

  -- a history is strong session snapshot isolated if and only if its commits are sequentially
  -- consistent
  abbrev pub SessionIsSequential : Type 0
  SessionIsSequential = (s : S) (calls : List (Call O)) →
      IsSessionSnapshotIsolated X V s calls
      ↔ IsSequentiallyConsistent (commits X V session_needs) (past_of s ∷ []) (map claim calls)

  -- a history is snapshot isolated if and only if its commits are serializable
  abbrev pub SnapshotIsSerializable : Type 0
  SnapshotIsSerializable = (s : S) (calls : List (Call O)) →
      IsSnapshotIsolated X V s calls
      ↔ IsSerializable (commits X V plain_needs) (past_of s ∷ []) (map claim calls)
