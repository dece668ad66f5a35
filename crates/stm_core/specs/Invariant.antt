-- The version invariant of a whole core.
use Rattle.std.specs.Prelude.{◌≡◌, ℕ, ◌+◌, ◌≤◌, ◌<◌, ◌⊎◌, cond, eqb, true, false, List, [], ◌∷◌, ◌++◌, length, map, slice_index, sum_by}
use Rattle.stm_core.specs.Client.{Client, Record, Aborted, Stamp, is_settled, Step, probed, fetched, decided, running, version_of, IsFree, word_before, before, shed, of_renewal, RecordLaw}
use Rattle.tx_memory.specs.Image.{In, Agrees}
use Rattle.stm_core.specs.Event.{check, lock, tick, after, gone}
use Rattle.stm_core.specs.Guards.{MayAct, Holds}
use Rattle.stm_core.specs.Core.{Core, bounds_of}
use Rattle.stm_core.specs.Version.{World, At, Version, Books}
use Rattle.stm_core.specs.Records.{value_of, wrote_in, Filed}
use Rattle.stm_core.specs.History.{Serial, image_after, image_upto}
use Rattle.stm_core.specs.declared.limits.TheConstants.{MOST_GRANTS}

-- the world of a core: its words, and the values and writers that a story gives
abbrev pub world : Core → List (List (ℕ × ℕ)) → World
world c story = record {
  clock = c.clock;
  lock = λ k. slice_index c.locks k;
  cell = λ a. slice_index c.cells a;
  val = value_of c.opening story;
  wrote = wrote_in story;
}

-- the client's share of the grants: its grants and one for itself, or 0 if the client is gathered
abbrev pub share : Client → ℕ
share v = cond v.is_gathered 0 (v.grants + 1)

-- the version invariant within one renewal, of a core without records of earlier renewals.
-- `lawful` says which records are lawful, `lk` which lock covers an address
pub record Inv (lawful : RecordLaw) (lk : ℕ → ℕ) (c : Core) : Type 0 where
  -- the clock is at most the last version
  pub bounded : c.clock ≤ c.last
  -- the grants of all clients that are out, and the number of these clients, add up to 64
  pub grants : sum_by share c.clients ≡ MOST_GRANTS + 1
  -- the story: the writes of the decided writer of each version
  pub story : List (List (ℕ × ℕ))
  -- the version invariant of the words and the clients' values
  pub version : Version lk (world c story) c.clients
  -- bookkeeping that keeps the version invariant
  pub books : Books lk (world c story) c.clients
  pub filed : Filed lawful (length c.opening) c.renewal story c.clock c.clients
  pub size : length c.cells ≡ length c.opening

-- the core within the present renewal: without the records of earlier renewals
abbrev pub now : Core → Core
now c = record c { clients = map (shed c.renewal) c.clients }

-- the lock word that the last step's probe found has not changed since
abbrev pub Unmoved : (ℕ → ℕ) → List ℕ → Step → Type 0
Unmoved lk locks (probed k n) = slice_index locks k ≡ n
Unmoved lk locks (fetched a n x) = slice_index locks (lk a) ≡ n
Unmoved lk locks _ = Unit {0}

-- the guarantees of a client whose last attempt was solo
pub record IsLone (lk : ℕ → ℕ) (clock : ℕ) (locks : List ℕ) (v : Client) : Type 0 where
  -- the client is out with all grants, so no other client is out
  pub out : v.is_gathered ≡ false
  pub all : v.grants ≡ MOST_GRANTS
  -- if undecided, the attempt has no write version, and the clock is its read version and the
  -- value from which it will tick
  pub still : decided v ≡ false
      → (v.attempt.wv ≡ 0) × (v.attempt.rv ≡ clock) × (v.attempt.next_from ≡ clock)
  -- while the attempt runs, the lock word that it probed does not change
  pub seen : v.attempt.phase ≡ running → Unmoved lk locks v.attempt.last

-- every client whose last attempt is solo has these guarantees
abbrev pub Lone : (ℕ → ℕ) → ℕ → List ℕ → List Client → Type 0
Lone lk clock locks cs =
    (i : ℕ) (v : Client) → At cs i v → v.attempt.lone ≡ true → IsLone lk clock locks v

-- some client that is out knows the clock: its floor is the clock's value
pub record IsKnown (clock : ℕ) (cs : List Client) : Type 0 where
  pub place : ℕ
  pub knower : Client
  pub member : At cs place knower
  pub out : knower.is_gathered ≡ false
  pub floor : knower.floor ≡ clock

-- no record of the list is ordered before an earlier one
abbrev pub Sorted : List Record → Type 0
Sorted [] = Unit {0}
Sorted (x ∷ xs) = ((r : Record) → In r xs → before r x ≡ false) × Sorted xs

-- the aborted attempts of a client are of the renewals that the client says, and each attempt of an
-- earlier renewal has read one version
pub record KeepsAborted (first : List ℕ) (past : List Record) (renewal : ℕ) (v : Client)
    : Type 0 where
  -- an attempt that is not settled was begun in the present renewal
  pub begun : is_settled v.attempt.phase ≡ false → v.attempt.renewal ≡ renewal
  pub now : (r : Aborted) → In r v.aborted → r.renewal ≡ renewal
  -- all words that an attempt of an earlier renewal has read are in the image of its read version
  pub before : (r : Aborted) → In r v.aborted_before
      → (r.renewal < renewal) × Agrees (image_upto first r.renewal r.version past) r.reads

-- the records of earlier renewals are lawful, in order, and serial from the first opening image to
-- the present one
pub record Past (lawful : RecordLaw) (first opening : List ℕ) (past : List Record) (renewal : ℕ)
    (cs : List Client) : Type 0 where
  pub serial : Serial first past
  pub leads : image_after first past ≡ opening
  pub abides : (r : Record) → In r past → lawful r.tag r.reads r.writes
  pub earlier : (r : Record) → In r past → r.renewal < renewal
  pub sorted : Sorted past
  -- one client has all records of earlier renewals, before its records of the present one; the
  -- other clients have none of them
  pub keeper : ℕ
  pub member : keeper < length cs
  pub kept : (i : ℕ) (v : Client) → At cs i v
      → v.records ≡ cond (eqb i keeper) past [] ++ of_renewal renewal v.records
  -- a gathered client has nothing left
  pub are_gone : (i : ℕ) (v : Client) → At cs i v → v.is_gathered ≡ true → v ≡ gone
  -- the aborted attempts of each client are of the renewals that the client says, and each attempt
  -- of an earlier renewal has read one version
  pub aborted : (i : ℕ) (v : Client) → At cs i v → KeepsAborted first past renewal v

-- the whole invariant: that of the present renewal, of solo attempts, of the clock, and of the
-- records of earlier renewals
pub record Rule (lawful : RecordLaw) (lk : ℕ → ℕ) (c : Core) : Type 0 where
  pub inv : Inv lawful lk (now c)
  pub lone : Lone lk c.clock c.locks c.clients
  pub known : IsKnown c.clock c.clients
  pub past : Past lawful c.first c.opening c.past c.renewal c.clients

-- nothing that a solo undecided attempt can find aborts the attempt
pub record GoesOnAlone (lawful : RecordLaw) (lk : ℕ → ℕ) (c : Core) (v : Client) : Type 0 where
  -- each lock word is free or held by the client itself, with a version of at most its read
  -- version
  pub probes : (k : ℕ)
      → (IsFree (slice_index c.locks k) ⊎ Holds v.attempt.held k)
      × (version_of (slice_index c.locks k) ≤ v.attempt.rv)
  -- a check finds the word of the probe, and the exchange for a lock succeeds
  pub checks : (a : ℕ) → MayAct lawful lk (bounds_of c) (check a) v.attempt
      → slice_index c.locks (lk a) ≡ word_before v.attempt.last
  pub locks : (k : ℕ) → MayAct lawful lk (bounds_of c) (lock k) v.attempt
      → slice_index c.locks k ≡ word_before v.attempt.last
  -- a tick is won and decides at once
  pub ticks : (from : ℕ) (tag : List ℕ) (writes : List (ℕ × ℕ))
      → MayAct lawful lk (bounds_of c) (tick from tag writes) v.attempt
      → (c.clock ≡ from)
      × ((s : Stamp) → decided (after s lk (tick from tag writes) c.clock v) ≡ true)
