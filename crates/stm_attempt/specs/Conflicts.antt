-- Conditions under which a conflict is shown: the conflict carries the word that the client's last
-- step, give-backs apart, found.
use Rattle.std.specs.Prelude.{◌≡◌, ◌≢◌, ℕ, ◌+◌, ◌*◌, ◌<◌, ◌≤◌, ◌⊎◌, List, true, false, ◌||◌, Option, Some, None}
use Rattle.std.specs.FinMap.{get}
use Rattle.tx_memory.specs.Image.{In}
use Rattle.stm_core.specs.LockWord.{free_word, held_word}
use Rattle.stm_core.specs.declared.limits.TheConstants.{MOST_TICKS}
use Rattle.stm_core.specs.Client.{Client, probed, checked, locked, ticked, validated, version_of, is_free}
use Rattle.stm_logs.specs.Log.{LogValue}
use Rattle.stm_attempt.specs.declared.conflict.Conflict.{Conflict}
use Rattle.stm_attempt.specs.declared.conflict.Conflict.TheVariants.{Held, Newer, Moved, LostLock, LostTick}

-- the lock word says that the lock is held
abbrev pub SaysHeld : ℕ → Type 0
SaysHeld word = word ≡ held_word (version_of word)

-- a conflict of a read at an address. The probe found the lock held by another client, or free
-- with a version above the read version; or the check found another word than the probe
-- Not said: that a test meets Moved. No gate stands between the steps of a read, so Moved is
-- proved alone.
abbrev pub IsReadConflict : (ℕ → ℕ) → ℕ → Conflict → Client → Type 0
IsReadConflict lk address (Held lock word) v =
    (lock ≡ lk address) × (v.attempt.last ≡ probed lock word) × SaysHeld word
    × (v.attempt.mine ≡ false)
IsReadConflict lk address (Newer lock version rv) v =
    (lock ≡ lk address) × (v.attempt.last ≡ probed lock (free_word version))
    × (rv ≡ v.attempt.rv) × (rv < version)
IsReadConflict lk address (Moved lock first second) v =
    (lock ≡ lk address) × (v.attempt.last ≡ checked address first second) × (first ≢ second)
IsReadConflict lk address (LostLock lock found) v = ⊥
IsReadConflict lk address (LostTick found) v = ⊥

-- a read at an address met this conflict, and read nothing
pub record HasMetConflict (lk : ℕ → ℕ) (address : ℕ) (conflict : Conflict)
    (v v' : Client) : Type 0 where
  pub shown : IsReadConflict lk address conflict v'
  pub reads : v'.attempt.reads ≡ v.attempt.reads
  pub steps : v'.attempt.steps ≤ v.attempt.steps + 3

-- a conflict over a lock that is to be taken. The load before the exchange found the lock held by
-- another client, or the exchange lost
abbrev pub IsLockConflict : ℕ → Conflict → Client → Type 0
IsLockConflict wanted (Held lock word) v =
    (lock ≡ wanted) × (v.attempt.last ≡ probed lock word) × SaysHeld word × (v.attempt.mine ≡ false)
IsLockConflict wanted (Newer lock version rv) v = ⊥
IsLockConflict wanted (Moved lock first second) v = ⊥
IsLockConflict wanted (LostLock lock found) v =
    (lock ≡ wanted) × ((word : ℕ) × (v.attempt.last ≡ locked lock word found) × (word ≢ found))
IsLockConflict wanted (LostTick found) v = ⊥

-- a conflict in the validation of a read word's lock. The lock was held by another client; or the
-- lock was free or the client's own, with a version above the read version
abbrev pub IsValidateConflict : ℕ → Conflict → Client → Type 0
IsValidateConflict wanted (Held lock word) v =
    (lock ≡ wanted) × (v.attempt.last ≡ validated lock word) × SaysHeld word
    × (v.attempt.mine ≡ false)
IsValidateConflict wanted (Newer lock version rv) v =
    (lock ≡ wanted) × ((word : ℕ) × (v.attempt.last ≡ validated lock word) ×
    ((is_free word || v.attempt.mine) ≡ true) × (version ≡ version_of word) ×
    (rv ≡ v.attempt.rv) × (rv < version))
IsValidateConflict wanted (Moved lock first second) v = ⊥
IsValidateConflict wanted (LostLock lock found) v = ⊥
IsValidateConflict wanted (LostTick found) v = ⊥

-- a conflict over the clock: the last allowed tick lost
abbrev pub IsTickConflict : Conflict → Client → Type 0
IsTickConflict (Held lock word) v = ⊥
IsTickConflict (Newer lock version rv) v = ⊥
IsTickConflict (Moved lock first second) v = ⊥
IsTickConflict (LostLock lock found) v = ⊥
IsTickConflict (LostTick found) v =
    (from : ℕ) × (v.attempt.last ≡ ticked from found) × (from ≢ found)
    × (v.attempt.ticks ≡ MOST_TICKS)

-- the lock belongs to an address that is written
abbrev pub IsWriteLock : LogValue → ℕ → Type 0
IsWriteLock log lock = (address : ℕ) × (get log.locks address ≡ Some lock)

-- the lock belongs to an address that was read
abbrev pub IsReadLock : (ℕ → ℕ) → List (ℕ × ℕ) → ℕ → Type 0
IsReadLock lk reads lock = (address x : ℕ) × In (address, x) reads × (lock ≡ lk address)

-- a conflict of a commit: over the lock of a written address, over the lock of a read address, or
-- over the clock
-- Not said: that a commit wins; that a test meets LostLock or LostTick, which are proved alone.
abbrev pub IsCommitConflict : (ℕ → ℕ) → LogValue → Conflict → Client → Type 0
IsCommitConflict lk log conflict v =
    ((lock : ℕ) × IsWriteLock log lock × IsLockConflict lock conflict v) ⊎
    (((lock : ℕ) × IsReadLock lk v.attempt.reads lock × IsValidateConflict lock conflict v) ⊎
    IsTickConflict conflict v)

-- a conflict that the attempt keeps was met by one of its reads, and the last step shows it
abbrev pub HasMet : (ℕ → ℕ) → Option Conflict → Client → Type 0
HasMet lk stopped v = (conflict : Conflict) → stopped ≡ Some conflict →
    ∥ ((address : ℕ) × IsReadConflict lk address conflict v) ∥₁

-- the number of reads that a conflict ended: one if there is a conflict, else zero
abbrev pub reads_refused : Option Conflict → ℕ
reads_refused None = 0
reads_refused (Some conflict) = 1

-- an upper bound of the steps of an attempt, by the number of reads that its write log did not
-- serve and the number of words to write
-- Not said: anything of time, or of the number of attempts of a transaction.
abbrev pub most_steps : ℕ → ℕ → ℕ
most_steps reads words = 4 * reads + 4 * words + 17
