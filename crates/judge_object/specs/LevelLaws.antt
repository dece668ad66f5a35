-- Laws of levels.
use Rattle.std.specs.Prelude.{◌↔◌, List}
use Rattle.judge_object.specs.declared.level.Level.{Level}
use Rattle.judge_object.specs.Levels.{IsSequentiallyConsistent, IsSerializable, IsAt}
use Rattle.judge_object.specs.Relaxed.{relax, PendingAreLast}
use Rattle.judge_object.specs.Rules.{Rules}
use Rattle.judge_object.specs.Call.{Call}
use Rattle.judge_object.specs.Orders.{IsLinearizable}

module _ {S O R : Type 0} (X : Rules S O R) where
  -- a linearizable history is sequentially consistent
  abbrev pub LinearizableIsSequential : Type 0
  LinearizableIsSequential = (s : S) (calls : List (Call O)) →
      IsLinearizable X s calls → IsSequentiallyConsistent X s calls

  -- a sequentially consistent history is serializable
  abbrev pub SequentialIsSerializable : Type 0
  SequentialIsSerializable = (s : S) (calls : List (Call O)) →
      IsSequentiallyConsistent X s calls → IsSerializable X s calls

  -- a history is at a level if and only if it is linearizable without the order that the level does
  -- not keep
  abbrev pub LevelIsRelaxed : Type 0
  LevelIsRelaxed = (kept : Level) (s : S) (calls : List (Call O)) → PendingAreLast calls →
      IsAt X kept s calls ↔ IsLinearizable X s (relax kept calls)
