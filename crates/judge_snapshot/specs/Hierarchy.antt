-- The levels of isolation, and which of them imply which.
use Rattle.std.specs.Prelude.{◌≡◌, Bool, true, false, List}
use Rattle.judge_object.specs.Rules.{Rules}
use Rattle.judge_object.specs.Call.{Call}
use Rattle.judge_object.specs.Orders.{IsLinearizable}
use Rattle.judge_object.specs.Levels.{IsSequentiallyConsistent, IsSerializable}
use Rattle.judge_snapshot.specs.WriteSets.{WriteSets}
use Rattle.judge_snapshot.specs.Snapshots.{IsStrongSnapshotIsolated, IsSessionSnapshotIsolated, IsSnapshotIsolated}

-- the levels. Each call is a transaction, so a strict serializable history is a linearizable one
pub data Level : Type 0 where
  StrictSerializable : Level
  StrongSnapshot : Level
  SessionSnapshot : Level
  Snapshot : Level
  Sequential : Level
  Serializable : Level

-- the table of implications: true if each history at the first level is at the second level
abbrev pub implies : Level → Level → Bool
implies StrictSerializable other = true
implies StrongSnapshot StrongSnapshot = true
implies StrongSnapshot SessionSnapshot = true
implies StrongSnapshot Snapshot = true
implies StrongSnapshot other = false
implies SessionSnapshot SessionSnapshot = true
implies SessionSnapshot Snapshot = true
implies SessionSnapshot other = false
implies Snapshot Snapshot = true
implies Snapshot other = false
implies Sequential StrictSerializable = false
implies Sequential StrongSnapshot = false
implies Sequential other = true
implies Serializable Snapshot = true
implies Serializable Serializable = true
implies Serializable other = false

module _ {S O R W : Type 0} (X : Rules S O R) (V : WriteSets S O W) where
  -- a history is at a level
  abbrev pub IsAtLevel : Level → S → List (Call O) → Type 0
  IsAtLevel StrictSerializable s calls = IsLinearizable X s calls
  IsAtLevel StrongSnapshot s calls = IsStrongSnapshotIsolated X V s calls
  IsAtLevel SessionSnapshot s calls = IsSessionSnapshotIsolated X V s calls
  IsAtLevel Snapshot s calls = IsSnapshotIsolated X V s calls
  IsAtLevel Sequential s calls = IsSequentiallyConsistent X s calls
  IsAtLevel Serializable s calls = IsSerializable X s calls

  -- a history at a level is at each level that the table says the level implies
  abbrev pub ImpliedLevelsHold : Type 0
  ImpliedLevelsHold = (level other : Level) → implies level other ≡ true →
      (s : S) → V.starts s ≡ true → (calls : List (Call O)) →
      IsAtLevel level s calls → IsAtLevel other s calls
