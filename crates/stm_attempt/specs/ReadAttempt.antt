-- The value of an attempt that only reads, in contracts.
use Rattle.std.specs.Prelude.{◌≡◌, ℕ, ◌+◌, Bool, length, Result}
use Rattle.tx_memory.specs.View.{View}
use Rattle.stm_core.specs.declared.law.Law as Law
use Rattle.stm_core.specs.Client.{Client}
use Rattle.stm_logs.specs.Log.{empty_log}
use Rattle.stm_core.specs.Guards.{stripe_of}
use Rattle.stm_attempt.specs.Begun.{is_unfinished}
use Rattle.stm_attempt.specs.Meaning.{memory_of, Origin, origin_of}
use Rattle.stm_attempt.specs.Conflicts.{reads_refused, most_steps}
use Rattle.stm_attempt.specs.Answers.{HasReadOnly}
use Rattle.stm_attempt.specs.declared.conflict.Stopped.{Stopped}
use Rattle.stm_attempt.specs.declared.read_attempt.ReadAttempt.{ReadAttempt}

module _ {L R : Type 0} {l : Law.Ghosts L} where
  -- true if the attempt has not finished
  abbrev pub runs : ReadAttempt L R l → Bool
  runs s = is_unfinished s.client.now.value.attempt.phase

  -- the value of the attempt's client
  abbrev pub client_of : ReadAttempt L R l → Client
  client_of s = s.client.now.value

  -- the lock of an address of the attempt's region
  abbrev pub lock_of : ReadAttempt L R l → ℕ → ℕ
  lock_of s = stripe_of s.region.now.stripes

  -- the memory that the attempt represents
  abbrev pub view : ReadAttempt L R l → View
  view s = memory_of (runs s) s.region.now l.fits (client_of s) empty_log

  -- the part of an attempt that no read changes
  abbrev pub origin : ReadAttempt L R l → Origin
  origin s = origin_of (runs s) s.region.now s.client.ghost_name 0 s.client.now

  -- the client is as before, and so is the conflict that the attempt met, if any
  abbrev pub IsAsBefore : ReadAttempt L R l → ReadAttempt L R l → Type 0
  IsAsBefore s s' = (s'.client.now ≡ s.client.now) × (s'.stopped ≡ s.stopped)

  -- a read at an address had this result
  abbrev pub Reads : ReadAttempt L R l → ReadAttempt L R l → ℕ → Result ℕ Stopped → Type 0
  Reads s s' address result =
      HasReadOnly (lock_of s) address (client_of s) (client_of s') s'.stopped result

  -- an upper bound of the steps of the attempt
  abbrev pub step_bound : ReadAttempt L R l → ℕ
  step_bound s = most_steps (length (client_of s).attempt.reads + reads_refused s.stopped) 0
