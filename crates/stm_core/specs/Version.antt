-- The version invariant: the properties of the words and of all clients' values after every event.
use Rattle.std.specs.Prelude.{◌≡◌, ◌≢◌, ℕ, suc, ◌-◌, ◌≤◌, ◌<◌, ◌⊎◌, true, false, Bool, List}
use Rattle.tx_memory.specs.Image.{In}
use Rattle.stm_core.specs.LockWord.{held_word}
use mathlib.Core.Option.{some}
use lib.ListN.{get_elem?}
use Rattle.stm_core.specs.Client.{Client, Record, Aborted, Step, probed, fetched, decided, version_of, IsFree, writes_to, base}

-- the words and the story: the value of an address in the image of a version, and whether the
-- decided writer of a version wrote the address
pub record World : Type 0 where
  pub clock : ℕ
  pub lock : ℕ → ℕ
  pub cell : ℕ → ℕ
  pub val : ℕ → ℕ → ℕ
  pub wrote : ℕ → ℕ → Bool

-- v is the value of the client at index i of the list, counted from 0
abbrev pub At : List Client → ℕ → Client → Type 0
At cs i v = get_elem? cs i ≡ some v

-- the client has a write version and is not decided
abbrev pub IsOpen : Client → Type 0
IsOpen v = (0 < v.attempt.wv) × (decided v ≡ false)

-- the client has read x at address a, in the image of version b: in its running or last attempt,
-- as a read that passed its validation, in a record, or in an attempt that aborted in the present
-- renewal
pub data Claims (v : Client) (b a x : ℕ) : Type 0 where
  runs : b ≡ v.attempt.rv → In (a, x) v.attempt.reads → Claims v b a x
  passes : suc b ≡ v.attempt.wv → (j : ℕ) → j < v.attempt.passed
      → get_elem? v.attempt.reads j ≡ some (a, x) → Claims v b a x
  noted : (r : Record) → In r v.records → b ≡ base r → In (a, x) r.reads → Claims v b a x
  gave_up : (r : Aborted) → In r v.aborted → b ≡ r.version → In (a, x) r.reads → Claims v b a x

-- the finding of the last step still holds or was overtaken. The version of a probed lock has not
-- gone back, and a fetched value is the newest unless a newer decided writer wrote the word
abbrev pub Saw : (ℕ → ℕ) → World → ℕ → Step → Type 0
Saw lk s rv (probed k n) = version_of n ≤ version_of (s.lock k)
Saw lk s rv (fetched a n x) =
    (version_of n ≤ rv) × IsFree n × (version_of n ≤ version_of (s.lock (lk a)))
    × ((x ≡ s.val s.clock a) ⊎ ((u : ℕ) × (version_of n < u) × (s.wrote u a ≡ true)))
Saw lk s rv _ = Unit {0}

module _ (lk : ℕ → ℕ) where
  -- the clauses on one client beside the words and the story
  pub record IsSound (s : World) (v : Client) : Type 0 where
    -- the client's read version, write version and floor, and the versions of its records, are at
    -- most the clock
    pub rv : v.attempt.rv ≤ s.clock
    pub wv : v.attempt.wv ≤ s.clock
    pub floor : v.floor ≤ s.clock
    pub recorded : (r : Record) → In r v.records → r.version ≤ s.clock
    -- every read agrees with the image of its version. For a read of the attempt, this is the
    -- image of the read version, and for a validated read the image before the write version. For
    -- a read of a record, this is the image of the reader's version, or the image before the
    -- writer's version
    pub agrees : (b a x : ℕ) → Claims v b a x → (s.val b a ≡ x) × (b ≤ s.clock)
    -- an undecided client with a write version holds the locks of all addresses that it is to
    -- write
    pub locked : IsOpen v → (a : ℕ) → writes_to v.attempt.writes a ≡ true
        → (u : ℕ) × In (lk a, u) v.attempt.held
    -- a decided client holds the locks of all writes that are not yet stored
    pub pending : decided v ≡ true → (a : ℕ) → writes_to v.attempt.writes a ≡ true
        → In a v.attempt.stored ⊎ ((u : ℕ) × In (lk a, u) v.attempt.held)
    -- the write version is above the old version of each lock that the client holds
    pub above : (k u : ℕ) → In (k, u) v.attempt.held → 0 < v.attempt.wv → u < v.attempt.wv
    -- the finding of the last step still holds or was overtaken
    pub saw : Saw lk s v.attempt.rv v.attempt.last

  -- the data words under lock k, which client v holds with the old version u
  pub record IsKept (s : World) (v : Client) (k u : ℕ) : Type 0 where
    -- each of these words has its newest value, unless a decided holder has yet to store it
    pub same : (a : ℕ) → lk a ≡ k
        → (decided v ≡ false) ⊎ ((writes_to v.attempt.writes a ≡ false) ⊎ In a v.attempt.stored)
        → s.cell a ≡ s.val s.clock a
    -- a word that a decided holder has yet to store has its value from just before the holder's
    -- version
    pub waiting : (a : ℕ) → lk a ≡ k → decided v ≡ true → writes_to v.attempt.writes a ≡ true
        → (In a v.attempt.stored → ⊥) → s.cell a ≡ s.val (v.attempt.wv - 1) a
    -- no decided writer of a version above the old one, except the holder, wrote any of these
    -- words
    pub newest : (a w : ℕ) → lk a ≡ k → u < w → (decided v ≡ false) ⊎ (w ≢ v.attempt.wv)
        → s.wrote w a ≡ false

  -- the clauses on the words and all clients
  pub record Version (s : World) (cs : List Client) : Type 0 where
    -- every version in a lock word is at most the clock
    pub versions : (k : ℕ) → version_of (s.lock k) ≤ s.clock
    -- each write version belongs to one client
    pub own : (i j : ℕ) (v w : Client) → At cs i v → At cs j w → 0 < v.attempt.wv
        → v.attempt.wv ≡ w.attempt.wv → i ≡ j
    -- the words under a free lock have their newest values, and no decided writer above the lock's
    -- version wrote them
    pub free : (k a w : ℕ) → IsFree (s.lock k) → lk a ≡ k
        → (s.cell a ≡ s.val s.clock a) × (version_of (s.lock k) < w → s.wrote w a ≡ false)
    -- a lock word that says held is held by a client that has the word's version as the old
    -- version
    pub holder : (k : ℕ) → s.lock k ≡ held_word (version_of (s.lock k))
        → (i : ℕ) × (v : Client) × At cs i v × In (k, version_of (s.lock k)) v.attempt.held
    -- no two clients hold the same lock
    pub alone : (i j : ℕ) (v w : Client) (k u t : ℕ) → At cs i v → At cs j w
        → In (k, u) v.attempt.held → In (k, t) w.attempt.held → i ≡ j
    -- the words under each held lock are as `IsKept` states
    pub kept : (i : ℕ) (v : Client) (k u : ℕ) → At cs i v → In (k, u) v.attempt.held
        → IsKept s v k u
    -- no undecided client with a version of at most b writes an address that some client has read
    -- in the image of version b
    pub apart : (i j : ℕ) (v w : Client) (b a x : ℕ) → At cs i v → At cs j w → Claims v b a x
        → IsOpen w → w.attempt.wv ≤ b → writes_to w.attempt.writes a ≡ false
    -- each client satisfies the clauses on one client
    pub sound : (i : ℕ) (v : Client) → At cs i v → IsSound s v

  -- bookkeeping on one client, without which the clauses above would not be preserved
  pub record IsBooked (s : World) (v : Client) : Type 0 where
    -- the write version is above the read version
    pub later : 0 < v.attempt.wv → v.attempt.rv < v.attempt.wv
    -- the word of each held lock says held, with the listed version
    pub listed : (k u : ℕ) → In (k, u) v.attempt.held → s.lock k ≡ held_word u
    -- the story has no writes for the version of an undecided client
    pub unwritten : IsOpen v → (a : ℕ) → s.wrote v.attempt.wv a ≡ false
    -- the story has the writes of a decided client for its version
    pub told : decided v ≡ true → (0 < v.attempt.wv)
        × ((a : ℕ) → s.wrote v.attempt.wv a ≡ writes_to v.attempt.writes a)
    -- the story has the values of a decided client's writes under locks that the client still
    -- holds
    pub values : decided v ≡ true → (a x u : ℕ) → In (a, x) v.attempt.writes
        → In (lk a, u) v.attempt.held → s.val v.attempt.wv a ≡ x

  -- bookkeeping on the story and all clients
  pub record Books (s : World) (cs : List Client) : Type 0 where
    -- the story has no writer above the clock
    pub story : (u a : ℕ) → s.clock < u → s.wrote u a ≡ false
    -- the value of an address changes only at a version whose writer wrote the address
    pub steady : (a v w : ℕ) → v ≤ w → ((u : ℕ) → v < u → u ≤ w → s.wrote u a ≡ false)
        → s.val v a ≡ s.val w a
    pub booked : (i : ℕ) (v : Client) → At cs i v → IsBooked s v
