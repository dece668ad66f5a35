-- The records of all clients in terms of an object's entries, and the attempts of a call.
use Rattle.std.specs.Prelude.{◌≡◌, ◌≢◌, ◌⊎◌, ℕ, zero, suc, ◌+◌, ◌*◌, ◌<◌, ◌≤◌, Bool, true, false}
use Rattle.std.specs.Prelude.{List, [], ◌∷◌, ◌++◌, length, Result, Ok, Err, IfOk, IfErr}
use Rattle.std.specs.Prelude.{MatchResult}
use Rattle.tx_memory.specs.Image.{In}
use Rattle.stm_core.specs.Client.{Client, Record, Aborted, aborted_of, all_aborted, rank}
use Rattle.stm_core.specs.Core.{IsFreeHanded}
use Rattle.stm_core.specs.History.{Sub, all_records, image_after}
use Rattle.stm_core.specs.Guards.{stripe_of}
use Rattle.stm_logs.specs.Log.{LogValue, log_pairs}
use Rattle.stm_region.specs.Shown.{RegionShown, ClientShown}
use Rattle.stm_region.specs.Closed.{Ends}
use Rattle.stm_region.specs.declared.limits.TheConstants.{MOST_GRANTS}
use Rattle.stm_attempt.specs.Begun.{IsPlaced, IsQuiet}
use Rattle.stm_attempt.specs.Conflicts.{IsReadConflict, IsCommitConflict}
use Rattle.stm_attempt.specs.Committing.{WasDecided, HasWonLock, HasLostTick}
use Rattle.stm_attempt.specs.declared.conflict.Conflict.{Conflict as ConflictMet}
use Rattle.stm_attempt.specs.declared.conflict.Stop.{Stop}
use Rattle.stm_attempt.specs.declared.conflict.Stop.TheVariants.{Memory, Conflict, Spent}
use Rattle.stm_object.specs.declared.place.CommitPosition.{CommitPosition}
use Rattle.stm_object.specs.Object.{Specification, Shows, IsFitting, IsBeginning, Does}
use Rattle.stm_object.specs.Object.{IsLawfulEntry}
use Rattle.stm_object.specs.Places.{place_of}

-- the records, one after the other, are those of these entries: each entry is one of the object's
-- and finds what it says in the value before it, and the final value is `last`
abbrev pub IsHistory : {E : Type 0} (o : Specification E) → o.Value → List Record → List E
    → o.Value → Type 0
IsHistory o x [] [] last = x ≡ last
IsHistory o x [] (e ∷ es) last = ⊥
IsHistory o x (r ∷ rs) [] last = ⊥
IsHistory o x (r ∷ rs) (e ∷ es) last = (r.tag ≡ o.code e) × o.IsEntry e × o.Finds e x
    × IsHistory o (o.after e x) rs es last

-- the records are a history from this value to one that the image holds
pub record LeadTo {E : Type 0} (o : Specification E) (x : o.Value) (rs : List Record)
    (image : List ℕ) : Type 0 where
  pub entries : List E
  pub last : o.Value
  pub history : IsHistory o x rs entries last
  pub shown : Shows o image last

-- from every value that this image holds, the records are a history to a value that the image
-- after them holds
abbrev pub Lead : {E : Type 0} (o : Specification E) → List ℕ → List Record → Type 0
Lead o first rs = (x : o.Value) → Shows o first x → LeadTo o x rs (image_after first rs)

-- the region has a size that the object allows, and was first opened on an image on which a memory
-- may be opened
pub record IsOpened {E : Type 0} (o : Specification E) (region : RegionShown) : Type 0 where
  pub size : o.IsSize region.size
  pub words : region.size ≡ length region.first
  pub first : IsBeginning o region.first

-- no record of the client has a position in a list of events
pub record IsUnplaced (v : Client) : Type 0 where
  pub each : (r : Record) → In r v.records → r.point ≡ 0

-- exactly one record was added, as the last one: with this tag, by the client's last attempt, in
-- this renewal, of a version that the client knows now and no version below the one that it knew
-- before, and after the writer of that earlier version
pub record AddsRecord (region : RegionShown) (tag : List ℕ) (v v' : Client) : Type 0 where
  pub made : Record
  pub tag_is : made.tag ≡ tag
  pub attempt_is : made.attempt ≡ v'.attempt.number
  pub renewal_is : made.renewal ≡ region.renewal
  pub unplaced : made.point ≡ 0
  pub later : v.floor ≤ made.version
  pub behind : 2 * v.floor < rank made
  pub known : made.version ≤ v'.floor
  pub records : v'.records ≡ v.records ++ (made ∷ [])

-- exactly one record was added as in `AddsRecord`, and this is its commit position
pub record AddsAt (region : RegionShown) (tag : List ℕ) (place : CommitPosition) (v v' : Client) :
    Type 0
  where
    pub adds : AddsRecord region tag v v'
    pub place_is : place ≡ place_of adds.made

-- the client may begin an attempt: it belongs to the region, which was opened as a memory of the
-- object; it holds no lock, and none of its records has a position in a list of events
pub record MayAttempt {E : Type 0} (o : Specification E) (region : RegionShown)
    (client : ClientShown) : Type 0 where
  pub own : client.table ≡ region.table
  pub free_handed : IsFreeHanded client.value
  pub opened : IsOpened o region
  pub unplaced : IsUnplaced client.value

-- exactly one record was added, as the last one; it is the record of a reader and writes nothing
pub record AddsWithoutWrites (v v' : Client) : Type 0 where
  pub made : Record
  pub reader : made.writer ≡ false
  pub writes : made.writes ≡ []
  pub records : v'.records ≡ v.records ++ (made ∷ [])

-- if the call returns an answer, and the transaction only reads or its answer changes nothing,
-- then the added record writes nothing
abbrev pub WritesOnlyChanges : {A X : Type 0} → Bool → (A → Bool) → Result (A × CommitPosition) X →
    Client
    → Client → Type 0
WritesOnlyChanges reads changes result v v' = IfOk result (λ a.
    (reads ≡ true) ⊎ (changes a.0 ≡ false) → AddsWithoutWrites v v')

-- if the call returns an answer, the record of the answer's entry was added, with the commit
-- position that the call returns; after a refusal, no record was added
abbrev pub RecordsEntry : {A X E : Type 0} → (o : Specification E) → RegionShown → (A → E)
    → Result (A × CommitPosition) X → Client → Client → Type 0
RecordsEntry o region entry (Ok a) v v' = AddsAt region (o.code (entry a.0)) a.1 v v'
RecordsEntry o region entry (Err e) v v' = v'.records ≡ v.records

-- the client's last attempt added the record of the entry, whose reads and writes do what the
-- entry says; and in the core state of the region right after the deciding step, the records of
-- all clients were a history from the opening, which has this record and all records of the
-- client, each once and in their order
pub record WasInOrder {E : Type 0} (o : Specification E) (region : RegionShown) (entry : E)
    (v v' : Client) : Type 0 where
  pub adds : AddsRecord region (o.code entry) v v'
  pub does : Does o entry adds.made.reads adds.made.writes
  pub decided : WasDecided (IsFitting o) (IsLawfulEntry o) region adds.made v'
  pub lead : Lead o region.first (all_records decided.decides.core.clients)
  pub own : In adds.made (all_records decided.decides.core.clients)
  pub among : Sub v'.records (all_records decided.decides.core.clients)

-- no other client is out
abbrev pub IsAlone : Client → Type 0
IsAlone v = v.grants ≡ MOST_GRANTS

-- the words that the client's records reach, one after the other, from the words of the first
-- opening; if the client is solo, these are all words as they are
abbrev pub words_after : RegionShown → Client → List ℕ
words_after region v = image_after region.first v.records

-- the words that the client's records reached before fit; for whatever value they held, the entry
-- finds what it says in the value, and the records now reach words of the value after the entry
pub record LeadsOn {E : Type 0} (o : Specification E) (region : RegionShown) (entry : E)
    (v v' : Client) : Type 0 where
  pub fitting : IsFitting o (words_after region v)
  pub on : (x : o.Value) → Shows o (words_after region v) x →
      o.Finds entry x × Shows o (words_after region v') (o.after entry x)

-- the words and the version are those at the closing of the region, and the closing client's
-- records are a history from the opening to the words
pub record Closes {E : Type 0} (o : Specification E) (region : RegionShown) (v : Client)
    (words : List ℕ) (version : ℕ) : Type 0 where
  pub fitting : IsFitting o region.first
  pub ends : Ends (IsLawfulEntry o) region v words version
  pub lead : (x : o.Value) → Shows o region.first x → LeadTo o x v.records words

-- the attempt did not stop for a conflict
abbrev pub IsNoConflict : Stop → Type 0
IsNoConflict Memory = Unit {0}
IsNoConflict (Conflict conflict) = ⊥
IsNoConflict (Spent version) = Unit {0}

-- the effect of a stop on the version that a solo client knows: refused memory leaves the version,
-- a conflict is impossible, and a spent clock means that the client knew the last version before
abbrev pub IsNearStop : ℕ → ℕ → ℕ → Stop → Type 0
IsNearStop last before now Memory = now ≡ before
IsNearStop last before now (Conflict conflict) = ⊥
IsNearStop last before now (Spent version) = before ≡ last

-- the effect of a solo client's attempt on the version that it knows: a record raises the version
-- by at most one, and not at all if the attempt only reads
abbrev pub IsNear : {A : Type 0} → Bool → ℕ → ℕ → ℕ → Result A Stop → Type 0
IsNear reads last before now result =
    MatchResult result (λ _. now ≤ before + 1) (λ stop. IsNearStop last before now stop)
    × (reads ≡ true → now ≡ before)

-- the client's last step showed the conflict, in a read
abbrev pub WasRead : RegionShown → ConflictMet → Client → Type 0
WasRead region conflict v =
    ∥ ((address : ℕ) × IsReadConflict (stripe_of region.stripes) address conflict v) ∥₁

-- the client's attempt was about to write the contents of this log, which is not empty: for some
-- answer that changes something, the record of the answer's entry, with the attempt's reads and
-- these writes, would have been lawful
pub record WouldWriteEntry {A E : Type 0} (o : Specification E) (region : RegionShown)
    (entry : A → E) (changes : A → Bool) (log : LogValue) (v : Client) : Type 0 where
  pub answer : A
  pub changing : changes answer ≡ true
  pub some : log_pairs log ≢ []
  pub placed : IsPlaced region log
  pub does : Does o (entry answer) v.attempt.reads (log_pairs log)

-- the client's last step, apart from giving back locks, showed the conflict: in a read, or, if the
-- transaction may write, in a commit, over the lock of an address that was read or was to be
-- written, or over the clock
abbrev pub ConflictWasShown : {A E : Type 0} → (o : Specification E) → RegionShown → (A → E)
    → (A → Bool) → Bool → ConflictMet → Client → Type 0
ConflictWasShown o region entry changes reads conflict v = WasRead region conflict v
    ⊎ ((log : LogValue) × (reads ≡ false) × WouldWriteEntry o region entry changes log v
    × IsCommitConflict (stripe_of region.stripes) log conflict v)

-- the client's next attempt was begun in this renewal and aborted: it is the last one of the
-- client's aborted attempts, after those before it
pub record AddsAborted (region : RegionShown) (v v' : Client) : Type 0 where
  pub renewal : v'.attempt.renewal ≡ region.renewal
  pub listed : all_aborted v' ≡ all_aborted v ++ aborted_of v'.attempt ∷ []

-- the client has no more aborted attempts than before
pub record AddsNoAborted (v v' : Client) : Type 0 where
  pub same : all_aborted v' ≡ all_aborted v

-- the aborted attempts that the client had before stay, in their order, before any new ones
abbrev pub GrowsAborted : Client → Client → Type 0
GrowsAborted v v' = (more : List Aborted) × (all_aborted v' ≡ all_aborted v ++ more)

-- one attempt was made, which left no record and showed a conflict
pub record AbortedOnce (Shows : ConflictMet → Client → Type 0) (v v' : Client) : Type 0 where
  pub next : v'.attempt.number ≡ v.attempt.number + 1
  pub records : v'.records ≡ v.records
  pub grants : v'.grants ≡ v.grants
  pub conflict : ConflictMet
  pub shown : Shows conflict v'

-- n attempts were made, one after the other, each of which showed a conflict
abbrev pub AbortedTimes : (ConflictMet → Client → Type 0) → ℕ → Client → Client → Type 0
AbortedTimes Shows zero v v' = v' ≡ v
AbortedTimes Shows (suc n) v v' = (w : Client) × (AbortedTimes Shows n v w × AbortedOnce Shows w v')

-- the conflicts of these attempts, the newest first
abbrev pub met_in : (Shows : ConflictMet → Client → Type 0) (n : ℕ) (v v' : Client) →
    AbortedTimes Shows n v v' → List ConflictMet
met_in Shows zero v v' h = []
met_in Shows (suc n) v v' h = h.1.1.conflict ∷ met_in Shows n v h.0 h.1.0

-- at most `tries` attempts were made, one after the other, and each but the last showed a
-- conflict; `left` of the allowed attempts were not made
pub record AreTries (Shows : ConflictMet → Client → Type 0) (tries : ℕ) (v v' : Client)
    : Type 0 where
  pub missed : ℕ
  pub left : ℕ
  pub count : missed + 1 + left ≡ tries
  pub before : Client
  pub misses : AbortedTimes Shows missed v before
  pub next : v'.attempt.number ≡ before.attempt.number + 1
  pub number : v'.attempt.number ≡ v.attempt.number + missed + 1

-- all allowed attempts were made
abbrev pub AreAllTries : ℕ → Client → Client → Type 0
AreAllTries tries v v' = v'.attempt.number ≡ v.attempt.number + tries

-- the clock was found at its last version while the attempt had something to write; the locks had
-- been taken and were given back, and the last step before the locks were given back won a lock,
-- or is the tick that lost to this version
pub record ClockIsSpent {A E : Type 0} (o : Specification E) (region : RegionShown)
    (entry : A → E) (changes : A → Bool) (version : ℕ) (v : Client) : Type 0 where
  pub version_is : version ≡ region.last
  pub from : v.attempt.next_from ≡ region.last
  pub gave_back : v.attempt.gave_back ≡ true
  pub found : HasWonLock v ⊎ HasLostTick version v
  pub log : LogValue
  pub written : WouldWriteEntry o region entry changes log v

-- the reason for which a transaction with this entry stopped: all allowed attempts were made, and
-- the last one showed the conflict; or, only if the transaction may write, a log could not grow
-- and the last step shows no conflict, or the clock was found at its last version with something
-- to write
-- Not said: which growth of a log was refused.
abbrev pub IsStopOfEntry : {A E : Type 0} → (o : Specification E) → RegionShown → (A → E)
    → (A → Bool) → Bool → ℕ → Stop → Client → Client → Type 0
IsStopOfEntry o region entry changes reads tries Memory v v' = (reads ≡ false) × IsQuiet v'
IsStopOfEntry o region entry changes reads tries (Conflict conflict) v v' =
    AreAllTries tries v v' × ConflictWasShown o region entry changes reads conflict v'
IsStopOfEntry o region entry changes reads tries (Spent version) v v' =
    (reads ≡ false) × ClockIsSpent o region entry changes version v'

-- one attempt was made: if it returned an answer, it added the record of the answer's entry, which
-- was then in order, and otherwise it added no record; it left no lock held
pub record AttemptedOnce {A E : Type 0} (o : Specification E) (region : RegionShown)
    (entry : A → E) (changes : A → Bool) (reads : Bool) (result : Result (A × CommitPosition) Stop)
    (v v' : Client) : Type 0 where
  pub grants : v'.grants ≡ v.grants
  pub floor : v.floor ≤ v'.floor
  pub free_handed : IsFreeHanded v'
  pub unplaced : IsUnplaced v'
  pub attempt : v'.attempt.number ≡ v.attempt.number + 1
  pub records : RecordsEntry o region entry result v v'
  pub order : IfOk result (λ a. WasInOrder o region (entry a.0) v v')
  pub spares : WritesOnlyChanges reads changes result v v'
  pub alone : IsAlone v → IfErr result (λ stop. IsNoConflict stop)
  pub near : IsAlone v → IsNear reads region.last v.floor v'.floor result
  -- without an answer, the attempt is one more aborted attempt of the client
  pub aborted : MatchResult result (λ _. AddsNoAborted v v') (λ _. AddsAborted region v v')
  pub stopped : IfErr result (λ stop. IsStopOfEntry o region entry changes reads 1 stop v v')

-- the effect of a call of a transaction with at most `tries` attempts: the record that it adds and
-- its commit position, the number of attempts, and the reason of a stop; for a solo client, that
-- the call makes one attempt and finds the words that the client's own calls reached
-- Not said: that the call returns an answer in the end, however many attempts it may make; the
-- duration of an attempt.
pub record HasCalledAt {A E : Type 0} (o : Specification E) (region : RegionShown) (entry : A → E)
    (changes : A → Bool) (reads : Bool) (tries : ℕ) (result : Result (A × CommitPosition) Stop)
    (v v' : Client) : Type 0 where
  pub grants : v'.grants ≡ v.grants
  pub floor : v.floor ≤ v'.floor
  pub free_handed : IsFreeHanded v'
  pub unplaced : IsUnplaced v'
  pub records : RecordsEntry o region entry result v v'
  pub order : IfOk result (λ a. WasInOrder o region (entry a.0) v v')
  pub spares : WritesOnlyChanges reads changes result v v'
  pub turn : IsAlone v → IfOk result (λ a. LeadsOn o region (entry a.0) v v')
  pub alone : IsAlone v → IfErr result (λ stop. IsNoConflict stop)
  pub once : IsAlone v → v'.attempt.number ≡ v.attempt.number + 1
  pub near : IsAlone v → IsNear reads region.last v.floor v'.floor result
  pub aborted : GrowsAborted v v'
  pub attempts : AreTries (λ conflict w. ConflictWasShown o region entry changes reads conflict w)
      tries v v'
  pub stopped : IfErr result (λ stop. IsStopOfEntry o region entry changes reads tries stop v v')

-- the answer without the commit position of its record
abbrev pub answer_in : {A X : Type 0} → Result (A × CommitPosition) X → Result A X
answer_in (Ok a) = Ok a.0
answer_in (Err e) = Err e

-- the effect of a call that does not return the commit position of its record
pub record HasCalled {A E : Type 0} (o : Specification E) (region : RegionShown) (entry : A → E)
    (changes : A → Bool) (reads : Bool) (tries : ℕ) (result : Result A Stop) (v v' : Client)
    : Type 0 where
  pub placed : Result (A × CommitPosition) Stop
  pub result_is : result ≡ answer_in placed
  pub call : HasCalledAt o region entry changes reads tries placed v v'
