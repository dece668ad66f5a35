-- The table of implications has no entry too few.
use Rattle.std.specs.Prelude.{◌≡◌, false, List}
use Rattle.judge_object.specs.Call.{Call}
use Rattle.judge_snapshot.specs.Registers.{Registers, registers, register_writes}
use Rattle.judge_snapshot.specs.Hierarchy.{Level, implies, IsAtLevel}

-- a history of two registers that is at one level and not at another one
pub record IsSeparated (level other : Level) : Type 0 where
  pub history : List (Call Registers)
  pub has : IsAtLevel registers register_writes level (0, 0) history
  pub lacks : IsAtLevel registers register_writes other (0, 0) history → ⊥

-- if the table does not say that a level implies another one, a history separates them
abbrev pub OtherLevelsAreSeparated : Type 0
OtherLevelsAreSeparated = (level other : Level) → implies level other ≡ false →
    IsSeparated level other
