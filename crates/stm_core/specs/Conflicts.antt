-- Conflicts, and the steps that show them.
use Rattle.std.specs.Prelude.{◌≡◌, ◌≢◌, ℕ, ◌+◌, ◌<◌, false, List}
use Rattle.stm_core.specs.Client.{Client, version_of, is_free, writes_to, word_before}
use Rattle.stm_core.specs.Event.{Action, probe, check, lock, tick, validate}
use Rattle.stm_core.specs.declared.limits.TheConstants.{MOST_TICKS}

-- the kinds of conflict that an attempt meets, each but the last about one lock
pub data Conflict : Type 0 where
  -- the lock is held, and not by the attempt itself
  held : (lock : ℕ) → Conflict
  -- the lock's version is above the read version
  newer : (lock : ℕ) → Conflict
  -- between the probe and the check of a read the lock word has changed
  moved : (lock : ℕ) → Conflict
  -- the exchange that was to take the lock is lost
  lost_lock : (lock : ℕ) → Conflict
  -- the last tick that an attempt may try is lost
  lost_tick : Conflict

-- the client's next step is this one, finds this word, and so shows the conflict
-- Not said: that the attempt ends here. After a probe it may probe again; the attempts of this
-- project do not.
pub data Shows (lk : ℕ → ℕ) (v : Client) : Action → (word : ℕ) → Conflict → Type 0 where
  -- a probe or a validation finds a held lock that is not the client's own
  probe_held : (k n : ℕ) → is_free n ≡ false → writes_to v.attempt.held k ≡ false
      → Shows lk v (probe k) n (held k)
  validate_held : (k n : ℕ) → is_free n ≡ false → writes_to v.attempt.held k ≡ false
      → Shows lk v (validate k) n (held k)
  -- a probe or a validation finds a version above the read version
  probe_newer : (k n : ℕ) → v.attempt.rv < version_of n → Shows lk v (probe k) n (newer k)
  validate_newer : (k n : ℕ) → v.attempt.rv < version_of n → Shows lk v (validate k) n (newer k)
  -- a check finds another word than the probe of its lock
  check_moved : (a n : ℕ) → n ≢ word_before v.attempt.last
      → Shows lk v (check a) n (moved (lk a))
  -- the exchange of a lock word finds another word than the probe of the lock
  lock_lost : (k n : ℕ) → n ≢ word_before v.attempt.last → Shows lk v (lock k) n (lost_lock k)
  -- the last tick finds another version than the one that it starts from
  tick_lost : (from : ℕ) (tag : List ℕ) (writes : List (ℕ × ℕ)) (n : ℕ)
      → v.attempt.ticks + 1 ≡ MOST_TICKS → n ≢ from
      → Shows lk v (tick from tag writes) n lost_tick
