-- Causes of conflicts: what another client did, between two places of a list of events. A place is
-- a number of events before it.
use Rattle.std.specs.Prelude.{◌≡◌, ◌≢◌, ℕ, ◌+◌, ◌<◌, ◌≤◌, ◌⊎◌, true, List, [], ◌∷◌, length}
use mathlib.Core.Option.{some}
use lib.ListN.{get_elem?}
use Rattle.tx_memory.specs.Image.{In}
use Rattle.stm_core.specs.Client.{Attempt, word_before}
use Rattle.stm_core.specs.Event.{Action, begin, probe, fetch, check, lock, tick, validate, put, release, give_back, finish}
use Rattle.stm_core.specs.Guards.{Holds, may_end}
use Rattle.stm_core.specs.Core.{Core, Event, acts, splits, gathers, renews, client_of, is_out, found}
use Rattle.stm_core.specs.Listed.{IsStepOf, core_at}
use Rattle.stm_core.specs.declared.limits.TheConstants.{MOST_TICKS}
use Rattle.stm_core.specs.Conflicts.{Conflict, held, newer, moved, lost_lock, lost_tick}

-- the client that takes the step of an event
abbrev pub actor : Event → ℕ
actor (acts k action) = k
actor (splits k) = k
actor (gathers k j) = k
actor (renews k last) = k

-- another client than this one does it, at a place between two others
abbrev pub IsDoneByAnother : (client from to : ℕ) → ((other place : ℕ) → Type 0) → Type 0
IsDoneByAnother k from to Does =
    (j : ℕ) × (n : ℕ) × (j ≢ k) × (from < n) × (n < to) × Does j n

-- no number stands twice in the list
abbrev pub AreDistinct : List ℕ → Type 0
AreDistinct [] = Unit {0}
AreDistinct (n ∷ ns) = (In n ns → ⊥) × AreDistinct ns

-- at least this many numbers are of a kind: some list of this length has different numbers, each
-- of the kind
abbrev pub AtLeast : (count : ℕ) → (ℕ → Type 0) → Type 0
AtLeast count IsOfKind =
    (numbers : List ℕ) × (length numbers ≡ count) × AreDistinct numbers
    × ((n : ℕ) → In n numbers → IsOfKind n)

-- the step is on the word of this lock, or on a data word that the lock covers
abbrev pub IsOnLock : (ℕ → ℕ) → Action → (lock : ℕ) → Type 0
IsOnLock lk begin l = ⊥
IsOnLock lk (probe k) l = k ≡ l
IsOnLock lk (fetch a) l = lk a ≡ l
IsOnLock lk (check a) l = lk a ≡ l
IsOnLock lk (lock k) l = k ≡ l
IsOnLock lk (tick from tag writes) l = ⊥
IsOnLock lk (validate k) l = k ≡ l
IsOnLock lk (put a x) l = lk a ≡ l
IsOnLock lk (release k) l = k ≡ l
IsOnLock lk (give_back k) l = k ≡ l
IsOnLock lk (finish tag) l = ⊥

-- the conflict is met at this lock; a lost tick is met at none
abbrev pub IsAtLock : Conflict → (lock : ℕ) → Type 0
IsAtLock (held k) l = k ≡ l
IsAtLock (newer k) l = k ≡ l
IsAtLock (moved k) l = k ≡ l
IsAtLock (lost_lock k) l = k ≡ l
IsAtLock lost_tick l = ⊥

-- the attempt holds a lock, has won no tick, and is not over
pub record HoldsUnticked (t : Attempt) : Type 0 where
  pub holds : t.held ≢ []
  pub unticked : t.wv ≡ 0
  pub unsettled : may_end t.phase ≡ true

-- the client that the core gives this number to is out, and holds the lock
abbrev pub IsHolder : Core → (client lock : ℕ) → Type 0
IsHolder c k l = (is_out c k ≡ true) × Holds (client_of c k).attempt.held l

module _ (lk : ℕ → ℕ) (start : Core) (events : List Event) where
  -- the client holds the lock just before the place
  abbrev pub HoldsAt : (client lock place : ℕ) → Type 0
  HoldsAt k l n = IsHolder (core_at lk start events n) k l

  -- at the place the client takes the lock: its exchange finds the word of its probe
  abbrev pub TakesAt : (lock client place : ℕ) → Type 0
  TakesAt l k n =
      let c = core_at lk start events n in
      (get_elem? events n ≡ some (acts k (lock l)))
      × (found lk c (lock l) ≡ word_before (client_of c k).attempt.last)

  -- at the place the client releases the lock
  abbrev pub ReleasesAt : (lock client place : ℕ) → Type 0
  ReleasesAt l k n = get_elem? events n ≡ some (acts k (release l))

  -- at the place the client, a decided writer of a version above this one, releases the lock
  abbrev pub ReleasesAbove : (lock version client place : ℕ) → Type 0
  ReleasesAbove l u k n =
      (get_elem? events n ≡ some (acts k (release l)))
      × (u < (client_of (core_at lk start events n) k).attempt.wv)

  -- at the place the client wins the tick from this version
  abbrev pub WinsTickAt : (version client place : ℕ) → Type 0
  WinsTickAt u k n =
      (tag : List ℕ) × (writes : List (ℕ × ℕ))
      × (get_elem? events n ≡ some (acts k (tick u tag writes)))
      × ((core_at lk start events n).clock ≡ u)

  -- at the place the attempt loses a tick: the tick finds another version than the one that it
  -- starts from
  abbrev pub LosesTickAt : (client attempt place : ℕ) → Type 0
  LosesTickAt k attempt n =
      (u : ℕ) × (tag : List ℕ) × (writes : List (ℕ × ℕ))
      × IsStepOf events k attempt n (tick u tag writes)
      × ((core_at lk start events n).clock ≢ u)

  -- another client holds the lock just before the place `to`. It held the lock at the place `from`
  -- already, or has taken it since
  abbrev pub IsHeldByAnother : (client from to lock : ℕ) → Type 0
  IsHeldByAnother k from to l =
      (j : ℕ) × (j ≢ k) × HoldsAt j l to
      × (HoldsAt j l from ⊎ ((n : ℕ) × (from < n) × (n < to) × TakesAt l j n))

  -- at this place the attempt makes its last probe of the lock before the place `to`
  abbrev pub IsLastProbe : (client attempt to lock place : ℕ) → Type 0
  IsLastProbe k attempt to l n =
      IsStepOf events k attempt n (probe l) × (n < to)
      × ((m : ℕ) → n < m → m < to → get_elem? events m ≢ some (acts k (probe l)))

  -- after the attempt's own last probe of the lock another client has taken the lock
  abbrev pub IsTakenByAnother : (client attempt to lock : ℕ) → Type 0
  IsTakenByAnother k attempt to l =
      (n : ℕ) × IsLastProbe k attempt to l n × IsDoneByAnother k n to (TakesAt l)

  -- the cause of a conflict. The attempt has this read version, began at the place `from`, and
  -- shows the conflict at the place `to`
  abbrev pub HasCause : (client attempt rv from to : ℕ) → Conflict → Type 0
  -- another client holds that lock
  HasCause k attempt rv from to (held l) = IsHeldByAnother k from to l
  -- a decided writer of a version above the read version has released that lock
  HasCause k attempt rv from to (newer l) = IsDoneByAnother k from to (ReleasesAbove l rv)
  -- another client has taken that lock since the attempt's last probe of the lock
  HasCause k attempt rv from to (moved l) = IsTakenByAnother k attempt to l
  HasCause k attempt rv from to (lost_lock l) = IsTakenByAnother k attempt to l
  -- other clients have won sixteen ticks, one from each version from the read version on
  HasCause k attempt rv from to lost_tick =
      (i : ℕ) → i < MOST_TICKS → IsDoneByAnother k from to (WinsTickAt (rv + i))

  -- at the place `from` no other client holds a lock, and between it and the place `to` no other
  -- client takes a step
  pub record IsUndisturbed (client from to : ℕ) : Type 0 where
    pub unlocked : (j l : ℕ) → j ≢ client → HoldsAt j l from → ⊥
    pub alone : (n : ℕ) (e : Event) → from < n → n < to → get_elem? events n ≡ some e
        → actor e ≡ client

  -- the lock is one of the attempt's stripes: some step of the attempt is on the lock, at the place
  -- `to` or before
  abbrev pub IsStripe : (client attempt to lock : ℕ) → Type 0
  IsStripe k attempt to l =
      (n : ℕ) × (action : Action) × (n ≤ to) × IsStepOf events k attempt n action
      × IsOnLock lk action l

  -- no other client holds one of the attempt's stripes at the place `from`, or takes or releases
  -- one between this place and the place `to`
  pub record IsUntouched (client attempt from to : ℕ) : Type 0 where
    pub unheld : (l j : ℕ) → IsStripe client attempt to l → j ≢ client → HoldsAt j l from → ⊥
    pub untaken : (l : ℕ) → IsStripe client attempt to l
        → IsDoneByAnother client from to (TakesAt l) → ⊥
    pub unreleased : (l : ℕ) → IsStripe client attempt to l
        → IsDoneByAnother client from to (ReleasesAt l) → ⊥

  -- the attempt loses sixteen ticks, the last one with its step at the place `to` or before
  abbrev pub LosesAllTicks : (client attempt to : ℕ) → Type 0
  LosesAllTicks k attempt to =
      AtLeast MOST_TICKS (λ n. LosesTickAt k attempt n × (n ≤ to))

  -- another client takes or releases this lock at the place
  abbrev pub IsTouchedByAnother : (client lock place : ℕ) → Type 0
  IsTouchedByAnother k l n =
      (j : ℕ) × (j ≢ k) × (TakesAt l j n ⊎ ReleasesAt l j n)

  -- the clock has reached the last version
  abbrev pub IsSpentAt : (place : ℕ) → Type 0
  IsSpentAt n = (core_at lk start events n).last ≤ (core_at lk start events n).clock
