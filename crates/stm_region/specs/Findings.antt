-- The facts on a region's state that a step reports to its client, besides the word that it found.
use Rattle.std.specs.Prelude.{◌≡◌, ℕ, suc, ◌*◌, ◌/◌, ◌<◌, ◌≤◌, ◌⊎◌, true, false, List, [], ◌∷◌, ◌++◌, length}
use Rattle.atomic_table.specs.Seated.{TableId}
use Rattle.atomic_table.specs.Table.{Me, Step}
use mathlib.Core.Option.{some}
use lib.ListN.{get_elem?}
use Rattle.tx_memory.specs.Image.{In, Agrees}
use Rattle.stm_core.specs.Client.{Client, Record, running, decided, inserted, version_of, IsFree, word_before, RecordLaw}
use Rattle.stm_core.specs.Core.{Core, found, stepped, acts}
use Rattle.stm_core.specs.Invariant.{Rule, now}
use Rattle.stm_core.specs.Event.{Action, begin, probe, fetch, check, lock, tick, validate, put, release, give_back, finish, decision, writer_record}
use Rattle.stm_core.specs.Guards.{Holds, stripe_of}
use Rattle.stm_core.specs.History.{Serial, Sub, all_records, image_at}
use Rattle.stm_region.specs.Shown.{RegionShown, opened_with, unplaced, value_after}
use Rattle.stm_region.specs.Traced.{IsTraced}
use Rattle.stm_region.specs.declared.limits.TheConstants.{MOST_GRANTS}
use Rattle.stm_core.specs.declared.version.TheConstants.{VERSION_LIMIT}

-- the version is at most the last version, and below the limit of versions
pub record IsVersion (last version : ℕ) : Type 0 where
  pub known : version ≤ last
  pub small : version < VERSION_LIMIT

-- the version in the lock word is at most the last version, and the word is below the limit of
-- lock words
pub record IsLockWord (last word : ℕ) : Type 0 where
  pub version : word / 2 ≤ last
  pub small : word < 2 * VERSION_LIMIT

-- the record is of an earlier renewal, or of this renewal with a version that the clock has
-- reached
pub record IsEarlier (renewal clock : ℕ) (r : Record) : Type 0 where
  pub present : r.renewal ≤ renewal
  pub version : r.renewal ≡ renewal → r.version ≤ clock

-- each record of the list is of an earlier renewal, or of this renewal with a version that the
-- clock has reached
abbrev pub AreEarlier : ℕ → ℕ → List Record → Type 0
AreEarlier renewal clock records = (r : Record) → In r records → IsEarlier renewal clock r

-- some fitting image of this size agrees with the reads
pub record StandsOn (fits : List ℕ → Type 0) (size : ℕ) (reads : List (ℕ × ℕ)) : Type 0 where
  pub image : List ℕ
  pub length_is : length image ≡ size
  pub fitting : fits image
  pub agrees : Agrees image reads

-- the core state is the state right after this step of the client at this index; before the step
-- the client had the value `was`, and the step found this word
pub record IsRightAfter (lawful : RecordLaw) (region : RegionShown) (step : Action) (word : ℕ)
    (was : Client) (number : ℕ) (core : Core) : Type 0 where
  -- the core state right before the step: the client has the value `was` there, and the step finds
  -- this word
  pub before : Core
  pub member : get_elem? before.clients number ≡ some was
  pub finds : found (stripe_of region.stripes) before step ≡ word
  pub now : core
      ≡ stepped (unplaced region.renewal) (stripe_of region.stripes) step number was before
  -- some list of allowed events leads to the core state before. Whatever list does: that list,
  -- with the step at its end, leads to this core state. Both lists begin with one opening, and
  -- each client has one number in both
  pub traced : IsTraced lawful (opened_with region) before
  pub goes_on : (t : IsTraced lawful (opened_with region) before)
      → (t' : IsTraced lawful (opened_with region) core) × (t'.last ≡ t.last)
      × ((place : ℕ) → t'.clients.number place ≡ t.clients.number place)
      × (t'.events ≡ t.events ++ acts (suc (t.clients.number number)) step ∷ [])

-- the step was one event of this region: right after it, a core state of the region that meets the
-- invariant has this value of the client
-- Not said: that a step succeeds; that a step call makes no further load that changes nothing,
-- which is read in `accesses.rt`.
-- Not said: that the core state before is the region's state during the call, and not an earlier
-- one in which the client had the same value. Which accesses a step call makes is read in
-- `accesses.rt`. Of the states of one run, the list of a later one goes on from that of an earlier
-- one (`HasOneList`).
pub record IsOneEvent (lawful : RecordLaw) (region : RegionShown) (step : Action) (word : ℕ)
    (was v : Client) : Type 0 where
  -- the core state belongs to this region
  pub core : Core
  pub rule : Rule lawful (stripe_of region.stripes) core
  pub first : core.first ≡ region.first
  pub renewal : core.renewal ≡ region.renewal
  pub opening : core.opening ≡ region.opening
  pub last : core.last ≡ region.last
  pub locks : length core.locks ≡ region.stripes
  pub cells : length core.cells ≡ region.size
  -- the client has the value v in this core state
  pub number : ℕ
  pub member : get_elem? core.clients number ≡ some v
  -- the core state is the one right after the step, which found this word
  pub after : IsRightAfter lawful region step word was number core

-- all words that the client has read belong to one version: in the region's core state right after
-- a step of the client, the image of its read version fits and agrees with its reads
-- Not said: anything of the image between two checks but what the law `reads_are_of_one_version`
-- says.
pub record IsOfOneVersion (fits : List ℕ → Type 0) (lawful : RecordLaw) (region : RegionShown)
    (v : Client) : Type 0 where
  -- the core state belongs to this region
  pub core : Core
  pub rule : Rule lawful (stripe_of region.stripes) core
  pub first : core.first ≡ region.first
  pub renewal : core.renewal ≡ region.renewal
  pub opening : core.opening ≡ region.opening
  pub last : core.last ≡ region.last
  pub locks : length core.locks ≡ region.stripes
  pub cells : length core.cells ≡ region.size
  -- the client has the value v in this core state
  pub number : ℕ
  pub member : get_elem? core.clients number ≡ some v
  -- the step, the word that it found, and the client's value before the step
  pub step : Action
  pub word : ℕ
  pub was : Client
  pub after : IsRightAfter lawful region step word was number core
  pub fitting : fits (image_at core.opening v.attempt.rv (all_records (now core).clients))
  pub agrees : Agrees (image_at core.opening v.attempt.rv (all_records (now core).clients))
      v.attempt.reads

-- a step of this region decided the client's attempt, and right after the step the records of all
-- clients are lawful and serial from the first opening image. The client's own records, the newest
-- included, are among them, each once and in their order
-- Not said: which other clients there are.
pub record Decides (fits : List ℕ → Type 0) (lawful : RecordLaw) (region : RegionShown) (v : Client)
    : Type 0 where
  -- the region's core state right after the deciding step
  pub core : Core
  pub rule : Rule lawful (stripe_of region.stripes) core
  -- the core state belongs to this region: opened on the same images, with the same number of
  -- words and the same last version
  pub first : core.first ≡ region.first
  pub renewal : core.renewal ≡ region.renewal
  pub opening : core.opening ≡ region.opening
  pub last : core.last ≡ region.last
  pub locks : length core.locks ≡ region.stripes
  pub cells : length core.cells ≡ region.size
  -- the client has the value v in this core state
  pub number : ℕ
  pub member : get_elem? core.clients number ≡ some v
  -- the step, the word that it found, and the client's value before the step
  pub step : Action
  pub word : ℕ
  pub was : Client
  pub after : IsRightAfter lawful region step word was number core
  -- the step decided the attempt: the attempt ran before the step, which made exactly one record.
  -- The record is the attempt's and was added to the client's records
  pub undecided : was.attempt.phase ≡ running
  pub made : Record
  pub decided_by : decision (unplaced region.renewal) step word was ≡ made ∷ []
  pub added : v.records ≡ inserted made was.records
  pub attempt : made.attempt ≡ v.attempt.number
  -- a writer's record is the record of the attempt as it is right after the step
  pub writer : decided v ≡ true → made ≡ writer_record (unplaced region.renewal) v.attempt
  pub fitting : fits region.first
  pub abides : (r : Record) → In r (all_records core.clients) → lawful r.tag r.reads r.writes
  pub serial : Serial region.first (all_records core.clients)
  pub among : Sub v.records (all_records core.clients)

module _ (fits : List ℕ → Type 0) (lawful : RecordLaw) (region : RegionShown)
    (e : Action) (n : ℕ) (v w : Client) where
  -- all words read belong to one version right after this step, which found this word and took the
  -- client from the value v to the value w
  abbrev pub IsOfOneVersionAt : Type 0
  IsOfOneVersionAt =
      (d : IsOfOneVersion fits lawful region w) × (d.step ≡ e) × (d.word ≡ n) × (d.was ≡ v)

  -- the attempt was decided by this step, which found this word and took the client from the value
  -- v to the value w
  abbrev pub DecidesAt : Type 0
  DecidesAt = (d : Decides fits lawful region w) × (d.step ≡ e) × (d.word ≡ n) × (d.was ≡ v)

-- the attempt is solo and undecided
-- Not said: that no other client is out: an attempt is solo if its client has all 63 grants and
-- has not split since the begin.
abbrev pub IsLoneOpen : Client → Type 0
IsLoneOpen v = (v.attempt.lone ≡ true) × (decided v ≡ false)

-- the findings of a solo attempt never make it fail. A probed lock is free or the client's own,
-- and not newer than the read version. A check and a lock find the word of the probe. A tick finds
-- the clock value from which it starts, and decides
abbrev pub LoneTells : Action → ℕ → Client → Client → Type 0
LoneTells begin n v w = Unit {0}
LoneTells (probe k) n v w = (IsFree n ⊎ Holds v.attempt.held k) × (version_of n ≤ v.attempt.rv)
LoneTells (fetch a) n v w = Unit {0}
LoneTells (check a) n v w = n ≡ word_before v.attempt.last
LoneTells (lock k) n v w = n ≡ word_before v.attempt.last
LoneTells (tick from tag writes) n v w = (n ≡ from) × (decided w ≡ true)
LoneTells (validate k) n v w = Unit {0}
LoneTells (put a x) n v w = Unit {0}
LoneTells (release k) n v w = Unit {0}
LoneTells (give_back k) n v w = Unit {0}
LoneTells (finish tag) n v w = Unit {0}

module _ (fits : List ℕ → Type 0) (lawful : RecordLaw) (r : RegionShown) where
  -- the facts that a step reports on the word found and on the client's values before and after it
  abbrev pub Tells : Action → ℕ → Client → Client → Type 0
  Tells begin n v w =
      IsVersion r.last n × (v.floor ≤ n) × StandsOn fits r.size []
      × AreEarlier r.renewal n v.records × (v.grants ≡ MOST_GRANTS → n ≡ v.floor)
  Tells (probe k) n v w = IsLockWord r.last n × (IsLoneOpen v → LoneTells (probe k) n v w)
  Tells (fetch a) n v w = Unit {0}
  Tells (check a) n v w =
      IsLockWord r.last n × StandsOn fits r.size w.attempt.reads
      × (IsLoneOpen v → LoneTells (check a) n v w)
      × IsOfOneVersionAt fits lawful r (check a) n v w
  Tells (lock k) n v w = IsLockWord r.last n × (IsLoneOpen v → LoneTells (lock k) n v w)
  Tells (tick from tag writes) n v w =
      IsVersion r.last n × (0 < w.attempt.wv → w.attempt.rv < w.attempt.wv)
      × (decided w ≡ true → DecidesAt fits lawful r (tick from tag writes) n v w)
      × (IsLoneOpen v → LoneTells (tick from tag writes) n v w)
  Tells (validate k) n v w =
      IsLockWord r.last n × (decided w ≡ true → DecidesAt fits lawful r (validate k) n v w)
  Tells (put a x) n v w = Unit {0}
  Tells (release k) n v w = Unit {0}
  Tells (give_back k) n v w = Unit {0}
  Tells (finish tag) n v w = DecidesAt fits lawful r (finish tag) n v w

  -- the step was one event; a store and a release do not report the word that they found
  abbrev pub Happens : Action → ℕ → Client → Client → Type 0
  Happens (put a x) n v w = (found : ℕ) × IsOneEvent lawful r (put a x) found v w
  Happens (release k) n v w = (found : ℕ) × IsOneEvent lawful r (release k) found v w
  Happens e n v w = IsOneEvent lawful r e n v w

  -- a step has its effect on the client's value, reports its facts, and is one event
  abbrev pub acting : {S : Type 0} → Action → Step S → Me S Client → ℕ → Me S Client → Type 0
  acting e s m n w =
      (w ≡ (value_after r e n m.0, m.1)) × Tells e n m.0 (value_after r e n m.0)
      × Happens e n m.0 (value_after r e n m.0)

-- a step that found this word changed the value of the seat's client as its event does, reported
-- its facts, and was one event
pub record HasActed {S : Type 0} (fits : List ℕ → Type 0) (lawful : RecordLaw) (r : RegionShown)
    (e : Action) (n : ℕ) (t : TableId) (m : Me S Client) (t' : TableId) (w : Me S Client)
    : Type 0 where
  pub table : t' ≡ t
  pub me : w ≡ (value_after r e n m.0, m.1)
  pub told : Tells fits lawful r e n m.0 w.0
  pub event : Happens fits lawful r e n m.0 w.0
