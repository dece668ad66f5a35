-- The results of a read and a write of a running attempt.
use Rattle.std.specs.Prelude.{◌≡◌, ℕ, Option, Some, None, Result, Ok, Err}
use Rattle.std.specs.FinMap.{insert}
use Rattle.stm_core.specs.Client.{Client}
use Rattle.stm_logs.specs.Log.{LogValue}
use Rattle.stm_attempt.specs.declared.conflict.Conflict.{Conflict}
use Rattle.stm_attempt.specs.declared.conflict.Refusal.{Refusal}
use Rattle.stm_attempt.specs.declared.conflict.Refusal.TheVariants.{Memory as OutOfMemory, Stopped}
use Rattle.stm_attempt.specs.declared.conflict.Stop.{Stop}
use Rattle.stm_attempt.specs.declared.conflict.Stopped as reading
use Rattle.stm_attempt.specs.declared.conflict.Stop.TheVariants.{Memory, Spent, Conflict as Conflicting}
use Rattle.stm_attempt.specs.Begun.{HasReadWord}
use Rattle.stm_attempt.specs.Conflicts.{HasMetConflict}

-- the stop is a spent clock: the clock is at the last version
abbrev pub IsSpentStop : Stop → Type 0
IsSpentStop Memory = ⊥
IsSpentStop (Conflicting conflict) = ⊥
IsSpentStop (Spent version) = Unit {0}

-- a read met a conflict, which the attempt keeps, and read nothing
abbrev pub HasMetOne : (ℕ → ℕ) → ℕ → Client → Client → Option Conflict → Type 0
HasMetOne lk address v v' stopped =
    (conflict : Conflict) × (stopped ≡ Some conflict) × HasMetConflict lk address conflict v v'

-- a read of the region returned a value that entered the reads; or memory for the log was refused
-- and nothing else happened; or the read met a conflict
abbrev pub HasReadRegion : (ℕ → ℕ) → ℕ → Client → Client → Option Conflict →
    Result ℕ Refusal → Type 0
HasReadRegion lk address v v' stopped (Ok x) = HasReadWord v v' address x × (stopped ≡ None)
HasReadRegion lk address v v' stopped (Err OutOfMemory) = (v' ≡ v) × (stopped ≡ None)
HasReadRegion lk address v v' stopped (Err Stopped) = HasMetOne lk address v v' stopped

-- a read without a log returned a value that entered the reads, or met a conflict
abbrev pub HasReadOnly : (ℕ → ℕ) → ℕ → Client → Client → Option Conflict →
    Result ℕ reading.Stopped → Type 0
HasReadOnly lk address v v' stopped (Ok x) = HasReadWord v v' address x × (stopped ≡ None)
HasReadOnly lk address v v' stopped (Err refused) = HasMetOne lk address v v' stopped

-- a write entered the log, or memory was refused and nothing was done
abbrev pub HasWritten : ℕ → ℕ → ℕ → LogValue → LogValue → Result (Unit {0}) Refusal →
    Type 0
HasWritten lock address value w w' (Ok u) = w' ≡ record {
  words = insert w.words address value;
  locks = insert w.locks address lock;
}
HasWritten lock address value w w' (Err OutOfMemory) = w' ≡ w
HasWritten lock address value w w' (Err Stopped) = ⊥
