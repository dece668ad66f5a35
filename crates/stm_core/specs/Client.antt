-- The value of one client, as plain data: its grants, the records of its committed calls, and its
-- attempt.
use Rattle.std.specs.Prelude.{◌≡◌, ℕ, ◌+◌, ◌*◌, ◌-◌, ◌/◌, Bool, true, false, cond, eqb, ltb, ◌||◌, ◌&&◌, List, [], ◌∷◌, ◌++◌, Option, Some, None}
use Rattle.stm_core.specs.LockWord.{free_word}

-- one committed call: its reads and writes, and its commit position. The version of a writer is
-- its write version, the version of a reader its read version
pub record Record : Type 0 where
  pub tag : List ℕ
  pub reads : List (ℕ × ℕ)
  pub writes : List (ℕ × ℕ)
  pub writer : Bool
  pub version : ℕ
  pub attempt : ℕ
  -- the number of renewals of the clock before the record
  pub renewal : ℕ
  -- the position of the point step in the list of events: of a writer the won tick, of a reader
  -- the begin. A region keeps no positions: in its records the point and the client are 0
  pub point : ℕ
  -- the client that decided the record
  pub client : ℕ

-- the phase of a client's attempt
pub data Phase : Type 0 where
  -- no attempt was begun
  idle : Phase
  running : Phase
  -- the attempt can only abort: a check, a lock or a validation failed, or a lock was given back
  ending : Phase
  -- a decided writer, which may have values to store and locks to release
  committed : Phase
  -- the attempt has finished as a reader
  finished : Phase

-- the last step of a client, with the words that it found
pub data Step : Type 0 where
  -- no step yet, or a step that finds no word
  nothing : Step
  began : (version : ℕ) → Step
  probed : (lock word : ℕ) → Step
  -- a fetch: the word that the probe before it found, and the value found
  fetched : (address word value : ℕ) → Step
  -- a check: the word that the probe found, and the word found now
  checked : (address word now : ℕ) → Step
  locked : (lock word now : ℕ) → Step
  ticked : (from now : ℕ) → Step
  validated : (lock word : ℕ) → Step
  ended : (version : ℕ) → Step

-- the running attempt of a client, or its last attempt
pub record Attempt : Type 0 where
  -- the attempt's number, 0 before the first attempt
  pub number : ℕ
  pub phase : Phase
  -- the read version
  pub rv : ℕ
  -- the reads that were checked: a pair of address and value for each check that succeeded
  pub reads : List (ℕ × ℕ)
  -- the last step; a give back leaves the step before it here and sets `gave_back`
  pub last : Step
  pub gave_back : Bool
  -- true if the last step was a probe or a validation of a lock that the client held then
  pub mine : Bool
  -- the locks that the attempt holds, each with its old version
  pub held : List (ℕ × ℕ)
  -- the write version, or 0 if the attempt has none
  pub wv : ℕ
  -- tag and writes of the won tick
  pub tag : List ℕ
  pub writes : List (ℕ × ℕ)
  -- the number of reads that have passed their validation
  pub passed : ℕ
  -- the addresses whose values are stored
  pub stored : List ℕ
  pub ticks : ℕ
  -- the clock value from which the next tick starts: the read version, then the value that the
  -- last tick found
  pub next_from : ℕ
  -- the attempt is solo: the client had all grants at the begin and has not split since
  pub lone : Bool
  -- the number of steps that the attempt has made
  pub steps : ℕ
  -- the number of renewals of the clock before the begin
  pub renewal : ℕ
  -- the positions of the begin and of the won tick in the list of events
  pub began_at : ℕ
  pub ticked_at : ℕ

-- an aborted attempt: its reads, its read version, its number, and the number of renewals of the
-- clock before its begin
pub record Aborted : Type 0 where
  pub reads : List (ℕ × ℕ)
  pub version : ℕ
  pub attempt : ℕ
  pub renewal : ℕ

-- the value of a client: the state that it keeps from one attempt to the next, and its attempt
pub record Client : Type 0 where
  -- the number of clients that the client may still split off
  pub grants : ℕ
  -- the client was gathered, and is no client any more
  pub is_gathered : Bool
  -- a version that the clock has reached: what the last begin found, what the last won tick made,
  -- or the floor of another client. That is the client that split this client off, or one that
  -- this client gathered. The next begin finds at least this version
  pub floor : ℕ
  pub records : List Record
  -- the client's aborted attempts before its last one, and those of the clients that it has
  -- gathered: those of earlier renewals of the clock, and those of the present one
  pub aborted_before : List Aborted
  pub aborted : List Aborted
  pub attempt : Attempt

-- a law of records says which tag goes with which reads and which writes
abbrev pub RecordLaw : Type 1
RecordLaw = List ℕ → List (ℕ × ℕ) → List (ℕ × ℕ) → Type 0

-- the client that makes a step and the time of the step: the client's number, the step's position
-- in the list of events, and the number of renewals before the step
pub record Stamp : Type 0 where
  pub client : ℕ
  pub place : ℕ
  pub renewal : ℕ

-- true if the phase is that of a decided writer
abbrev pub is_committed : Phase → Bool
is_committed committed = true
is_committed _ = false

-- true if the client is a decided writer. A reader that finished is settled (`is_settled`), and
-- not decided in this sense
abbrev pub decided : Client → Bool
decided v = is_committed v.attempt.phase

-- true if the attempt was decided, as a writer or as a reader, or if there is no attempt
abbrev pub is_settled : Phase → Bool
is_settled running = false
is_settled ending = false
is_settled _ = true

-- the attempt as an aborted one
abbrev pub aborted_of : Attempt → Aborted
aborted_of t = record {
  reads = t.reads;
  version = t.rv;
  attempt = t.number;
  renewal = t.renewal;
}

-- the aborted attempts of the present renewal: those in the client's list, and its last attempt
-- unless that is settled. An attempt that still runs counts as aborted, since it has not decided
abbrev pub given_up : Client → List Aborted
given_up v =
    cond (is_settled v.attempt.phase) v.aborted (v.aborted ++ aborted_of v.attempt ∷ [])

-- all aborted attempts of a client and of those that it has gathered: those of earlier renewals,
-- and those of the present one
abbrev pub all_aborted : Client → List Aborted
all_aborted v = v.aborted_before ++ given_up v

-- the version in a lock word; in the word of a held lock, the old version
abbrev pub version_of : ℕ → ℕ
version_of word = word / 2

-- the lock word is free
abbrev pub IsFree : ℕ → Type 0
IsFree word = word ≡ free_word (version_of word)

-- true if the lock word is free
abbrev pub is_free : ℕ → Bool
is_free word = eqb word (free_word (version_of word))

-- true if some pair of the list names the address
abbrev pub writes_to : List (ℕ × ℕ) → ℕ → Bool
writes_to [] a = false
writes_to (p ∷ ps) a = eqb p.0 a || writes_to ps a

-- the list without the pairs of one lock
abbrev pub without : List (ℕ × ℕ) → ℕ → List (ℕ × ℕ)
without [] k = []
without (p ∷ ps) k = cond (eqb p.0 k) (without ps k) (p ∷ without ps k)

-- the old version of a held lock, or 0 if the list does not name the lock
abbrev pub old_version : List (ℕ × ℕ) → ℕ → ℕ
old_version [] k = 0
old_version (p ∷ ps) k = cond (eqb p.0 k) p.1 (old_version ps k)

-- the word that the last probe found if the last step is that probe or its fetch, else 0
abbrev pub word_before : Step → ℕ
word_before (probed k n) = n
word_before (fetched a n x) = n
word_before _ = 0

-- the value that the step found if it is a fetch, else 0
abbrev pub value_fetched : Step → ℕ
value_fetched (fetched a n x) = x
value_fetched _ = 0

-- the word that the step found, if the step found one
abbrev pub word_found : Step → Option ℕ
word_found nothing = None
word_found (began n) = Some n
word_found (probed k n) = Some n
word_found (fetched a n x) = Some x
word_found (checked a n m) = Some m
word_found (locked k n m) = Some m
word_found (ticked f m) = Some m
word_found (validated k n) = Some n
word_found (ended n) = Some n

-- the word that the client's last step found, if the step found one
abbrev pub found_by : Client → Option ℕ
found_by v = cond v.attempt.gave_back None (word_found v.attempt.last)

-- the rank of a record among the records of its renewal: by version, the writer of a version
-- before its readers
abbrev pub rank : Record → ℕ
rank r = 2 * r.version + cond r.writer 0 1

-- true if r comes before x: by renewal, version, the writer of a version before its readers, and
-- then the point step
abbrev pub before : Record → Record → Bool
before r x =
    ltb r.renewal x.renewal
    || (eqb r.renewal x.renewal
    && (ltb (rank r) (rank x) || (eqb (rank r) (rank x) && ltb r.point x.point)))

-- the ordered list with one more record, put in after its equals
abbrev pub inserted : Record → List Record → List Record
inserted r [] = r ∷ []
inserted r (x ∷ xs) = cond (before r x) (r ∷ x ∷ xs) (x ∷ inserted r xs)

-- two ordered lists as one; among equals, those of the first list come first
abbrev pub merged : List Record → List Record → List Record
merged xs [] = xs
merged xs (y ∷ ys) = merged (inserted y xs) ys

-- the records of one renewal
abbrev pub of_renewal : ℕ → List Record → List Record
of_renewal n [] = []
of_renewal n (r ∷ rs) = cond (eqb r.renewal n) (r ∷ of_renewal n rs) (of_renewal n rs)

-- the client without its records of other renewals
abbrev pub shed : ℕ → Client → Client
shed n v = record v { records = of_renewal n v.records }

-- the version whose image a record's reads agree with
abbrev pub base : Record → ℕ
base r = cond r.writer (r.version - 1) r.version
