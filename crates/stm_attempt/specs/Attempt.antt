-- The value of an attempt in contracts.
use Rattle.std.specs.Prelude.{◌≡◌, ℕ, ◌+◌, Bool, true, List, [], length, Option, None, Result}
use Rattle.std.specs.Borrow.{MutBor}
use Rattle.std.specs.FinMap.{get, len}
use Rattle.tx_memory.specs.View.{View}
use Rattle.stm_core.specs.declared.law.Law as Law
use Rattle.stm_core.specs.Client.{Client, Record}
use Rattle.stm_logs.specs.Log.{LogValue, empty_log, log_pairs}
use Rattle.stm_region.specs.Shown.{ClientShown}
use Rattle.stm_core.specs.Guards.{stripe_of}
use Rattle.stm_attempt.specs.Meaning.{memory_of, Origin, origin_of}
use Rattle.stm_attempt.specs.Conflicts.{reads_refused, most_steps}
use Rattle.stm_attempt.specs.Answers.{HasReadRegion, HasWritten}
use Rattle.stm_attempt.specs.Committing.{HasCommitted, HasStopped, commit_record}
use Rattle.stm_attempt.specs.declared.attempt.Attempt.{Attempt}
use Rattle.stm_attempt.specs.declared.logs.Logs.{Logs}
use Rattle.stm_attempt.specs.declared.conflict.Refusal.{Refusal}
use Rattle.stm_attempt.specs.declared.conflict.Stop.{Stop}

module _ {L R A : Type 0} {l : Law.Ghosts L} where
  -- true if the attempt has not come to its commit
  abbrev pub runs : Attempt L R A l → Bool
  runs s = s.logs.now.in_use

  -- the value of the attempt's client
  abbrev pub client_of : Attempt L R A l → Client
  client_of s = s.client.now.value

  -- the attempt's write log
  abbrev pub log_of : Attempt L R A l → LogValue
  log_of s = s.logs.now.writes

  -- the value that the attempt has written at an address, if any
  abbrev pub written_at : Attempt L R A l → ℕ → Option ℕ
  written_at s address = get (log_of s).words address

  -- the lock of an address of the attempt's region
  abbrev pub lock_of : Attempt L R A l → ℕ → ℕ
  lock_of s = stripe_of s.region.now.stripes

  -- the memory that the attempt represents
  abbrev pub view : Attempt L R A l → View
  view s = memory_of (runs s) s.region.now l.fits (client_of s) (log_of s)

  -- the part of an attempt that no read and no write changes
  abbrev pub origin : Attempt L R A l → Origin
  origin s =
      origin_of (runs s) s.region.now s.client.ghost_name s.logs.ghost_name s.client.now

  -- the attempt runs, its logs are empty, and it has met no conflict
  abbrev pub IsFresh : Attempt L R A l → Type 0
  IsFresh s =
      (s.logs.now.reads ≡ []) × (log_of s ≡ empty_log) × (runs s ≡ true) × (s.stopped ≡ None)

  -- the client is as before, and so is the conflict that the attempt met, if any
  abbrev pub IsAsBefore : Attempt L R A l → Attempt L R A l → Type 0
  IsAsBefore s s' = (s'.client.now ≡ s.client.now) × (s'.stopped ≡ s.stopped)

  -- a read at an address that the attempt has not written had this result
  abbrev pub Reads : Attempt L R A l → Attempt L R A l → ℕ → Result ℕ Refusal → Type 0
  Reads s s' address result =
      HasReadRegion (lock_of s) address (client_of s) (client_of s') s'.stopped result

  -- a write of a value at an address had this result
  abbrev pub Writes : Attempt L R A l → Attempt L R A l → ℕ → ℕ →
      Result (Unit {0}) Refusal → Type 0
  Writes s s' address x result =
      HasWritten (lock_of s address) address x (log_of s) (log_of s') result

  -- the attempt's commit made a record of this tag and this version, and left the client with this
  -- value
  abbrev pub Commits : Attempt L R A l → List ℕ → Client → ℕ → Type 0
  Commits s tag v version =
      HasCommitted s.region.now tag (log_pairs (log_of s)) (client_of s) v version

  -- the record that the attempt's commit makes, of this tag and this version
  abbrev pub record_made : Attempt L R A l → List ℕ → ℕ → Record
  record_made s tag version =
      commit_record s.region.now tag (client_of s) (log_pairs (log_of s)) version

  -- the attempt's commit stopped for this reason, and left the client with this value
  abbrev pub Stops : Attempt L R A l → Client → Stop → Type 0
  Stops s v stop = HasStopped s.region.now (log_of s) stop (client_of s) v

  -- an upper bound of the steps of the attempt
  abbrev pub step_bound : Attempt L R A l → ℕ
  step_bound s =
      most_steps (length (client_of s).attempt.reads + reads_refused s.stopped)
      (len (log_of s).words)

-- the client that an attempt leaves when it ends
abbrev pub client_left : {B C : Type 0} → B × (MutBor ClientShown × C) → ClientShown
client_left exit = exit.1.0.now

-- the value of the client that an attempt leaves when it ends
abbrev pub value_left : {B C : Type 0} → B × (MutBor ClientShown × C) → Client
value_left exit = exit.1.0.now.value

-- the logs that an attempt leaves when it ends
abbrev pub logs_left : {A B C D : Type 0} → B × (C × (MutBor (Logs A) × D)) → Logs A
logs_left exit = exit.1.1.0.now

-- both logs are empty
abbrev pub AreEmpty : {A : Type 0} → Logs A → Type 0
AreEmpty logs = (logs.reads ≡ []) × (logs.writes ≡ empty_log)
