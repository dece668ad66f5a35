-- Traces of the attempts of a call.
use Rattle.std.specs.Prelude.{◌≡◌, ◌≤◌, ◌<◌, ℕ, ◌+◌, ◌*◌, Bool, true, false}
use Rattle.std.specs.Prelude.{List, [], ◌∷◌, ◌++◌, length}
use Rattle.std.specs.Prelude.{Option, Some, None, Result, Ok, Err}
use Rattle.std.specs.FinMap.{entries, empty}
use Rattle.tx_memory.specs.Pairs.{map_of}
use Rattle.tx_memory.specs.declared.access.Access.{Access}
use Rattle.tx_memory.specs.Accesses.{reads_behind, writes_behind, are_right}
use Rattle.stm_core.specs.Client.{Client, Record, all_aborted}
use Rattle.stm_region.specs.Shown.{RegionShown}
use Rattle.stm_region.specs.Findings.{StandsOn}
use Rattle.stm_attempt.specs.declared.conflict.Conflict.{Conflict as ConflictMet}
use Rattle.stm_attempt.specs.declared.conflict.Stop.{Stop}
use Rattle.stm_attempt.specs.declared.conflict.Stop.TheVariants.{Memory, Conflict, Spent}
use Rattle.stm_object.specs.declared.place.CommitPosition.{CommitPosition}
use Rattle.stm_object.specs.Places.{place_of, reader_at, rank_of}
use Rattle.stm_object.specs.History.{met_in, AreTries, AddsAborted}

-- an attempt that has ended: whether it committed; the commit position of its record, or of a
-- reader at its read version if it aborted; its reads and writes, in this order; and the times at
-- which it began and ended, by the tracer's clock
pub record Trace : Type 0 where
  pub commits : Bool
  pub place : CommitPosition
  pub accesses : List Access
  pub begin : ℕ
  pub end : ℕ

-- the attempts with these traces were made one after the other, from the first time to the last
-- one: none began before the one before it had ended, and none ended before it began
abbrev pub AreMadeInTurn : ℕ → List Trace → ℕ → Type 0
AreMadeInTurn from [] to = from ≤ to
AreMadeInTurn from (t ∷ traces) to =
    (from ≤ t.begin) × (t.begin ≤ t.end) × AreMadeInTurn t.end traces to

-- nothing was read or written yet, if the accesses are known
abbrev pub HasNoAccess : Option (List Access) → Type 0
HasNoAccess accesses = (all : List Access) → accesses ≡ Some all → all ≡ []

-- one more attempt is traced after the others, for which `is` holds; nothing is said if no
-- attempts are traced, or if there was no room for all of them
abbrev pub AppendsTrace : (Trace → Type 0) → Option (List Trace) → Option (List Trace) → Type 0
AppendsTrace is before after = (all : List Trace) → after ≡ Some all →
    (earlier : List Trace) × (last : Trace) × (before ≡ Some earlier)
    × (all ≡ earlier ++ (last ∷ [])) × is last

-- an attempt with these accesses has committed, and its record has this commit position; the
-- attempt began at the first of these times and ended at the last
abbrev pub HasTracedCommit : CommitPosition → Option (List Access) → ℕ → ℕ → Option (List Trace)
    → Option (List Trace) → Type 0
HasTracedCommit place accesses from to before after = AppendsTrace (λ t. (t.commits ≡ true)
    × (t.place ≡ place) × (accesses ≡ Some t.accesses) × (t.begin ≡ from) × (t.end ≡ to))
    before after

-- the position, if it is known, is that of a reader at this renewal and this read version
abbrev pub IsReaderAt : ℕ → ℕ → Option CommitPosition → Type 0
IsReaderAt renewal version position = (place : CommitPosition) → position ≡ Some place →
    place ≡ reader_at renewal version

-- an attempt with these accesses has aborted, and is traced at this position; the attempt began at
-- the first of these times and ended at the last
abbrev pub HasTracedAbort : Option CommitPosition → Option (List Access) → ℕ → ℕ
    → Option (List Trace) → Option (List Trace) → Type 0
HasTracedAbort position accesses from to before after = AppendsTrace (λ t. (t.commits ≡ false)
    × (position ≡ Some t.place) × (accesses ≡ Some t.accesses) × (t.begin ≡ from)
    × (t.end ≡ to)) before after

-- the attempt made this record: it committed, it has the record's commit position, its reads of
-- words before it wrote them are the record's reads, and its last writes are the record's writes;
-- and each of its reads gives what the attempt wrote or read at the address before
pub record IsTraceOf (t : Trace) (r : Record) : Type 0 where
  pub commits : t.commits ≡ true
  pub place : t.place ≡ place_of r
  pub reads : map_of r.reads ≡ reads_behind empty empty t.accesses
  pub writes : r.writes ≡ entries (writes_behind empty t.accesses)
  pub right : are_right empty empty t.accesses ≡ true

-- the attempt made the one record that was added
pub record IsOfAdded (v v' : Client) (t : Trace) : Type 0 where
  pub added : Record
  pub records : v'.records ≡ v.records ++ (added ∷ [])
  pub is : IsTraceOf t added

-- the attempt that left its client with this value aborted, and this is its trace: it has the
-- position of a reader at the attempt's renewal and read version; its reads of words before it
-- wrote them are the attempt's reads, and some fitting image of the region's size agrees with these
-- reads; and each of its reads gives what the attempt wrote or read at the address before
-- Not said: anything of its writes: their number, addresses and values.
pub record IsTraceOfAborted (fits : List ℕ → Type 0) (region : RegionShown) (v : Client)
    (t : Trace) : Type 0 where
  pub aborts : t.commits ≡ false
  pub place : t.place ≡ reader_at region.renewal v.attempt.rv
  pub reads : map_of v.attempt.reads ≡ reads_behind empty empty t.accesses
  pub right : are_right empty empty t.accesses ≡ true
  pub stands : ∥ StandsOn fits region.size v.attempt.reads ∥₁

module _ (fits : List ℕ → Type 0) (region : RegionShown) where
  -- the client's next attempt aborted, and this is its trace. The attempt's read version is at
  -- least the version that the client knew before, and at most the version that it knows now
  pub record IsNextAborted (v v' : Client) (t : Trace) : Type 0 where
    pub next : v'.attempt.number ≡ v.attempt.number + 1
    pub later : v.floor ≤ v'.attempt.rv
    pub known : v'.attempt.rv ≤ v'.floor
    pub is : IsTraceOfAborted fits region v' t

  -- one attempt with this result is traced: with an answer it committed and made the added record,
  -- otherwise it aborted
  abbrev pub IsOfEnd : {A X : Type 0} → Result A X → Client → Client → Trace → Type 0
  IsOfEnd (Ok a) v v' t = IsOfAdded v v' t
  IsOfEnd (Err e) v v' t = IsNextAborted v v' t

  -- one attempt with this result is traced after the others; the attempt was made between these
  -- two times
  pub record HasTracedOne {A X : Type 0} (result : Result A X) (v v' : Client) (from to : ℕ)
      (before after : Option (List Trace)) : Type 0 where
    pub later : from ≤ to
    pub one : AppendsTrace (λ t. IsOfEnd result v v' t × AreMadeInTurn from (t ∷ []) to)
        before after

  -- the client's next attempt aborted, this is its trace, and it is one more aborted attempt of the
  -- client
  abbrev pub IsListedAborted : Client → Client → Trace → Type 0
  IsListedAborted v v' t = IsNextAborted v v' t × AddsAborted region v v'

  -- attempts with these traces were made one after the other, and all of them aborted
  -- Not said: that a value of the client between two of the attempts is one that the client had.
  abbrev pub AreAborted : Client → List Trace → Client → Type 0
  AreAborted v [] v' = v' ≡ v
  AreAborted v (t ∷ traces) v' = (w : Client) × IsListedAborted v w t × AreAborted w traces v'

  -- the attempts of a call with this result: all aborted, except that with an answer the last one
  -- made the added record. Let n be the version that the client knew just before this last attempt:
  -- the record's version is at least n, and its position is after that of the writer of n
  abbrev pub AreOfEnd : {A X : Type 0} → Result A X → Client → Client → List Trace → Type 0
  AreOfEnd (Ok a) v v' traces = (before : List Trace) × (last : Trace)
      × (traces ≡ before ++ (last ∷ []))
      × ((w : Client) × AreAborted v before w × (w.floor ≤ last.place.version)
      × (2 * w.floor < rank_of last.place)
      × (v'.attempt.number ≡ w.attempt.number + 1) × (all_aborted v' ≡ all_aborted w))
      × IsOfAdded v v' last
  AreOfEnd (Err e) v v' traces = AreAborted v traces v'

  -- the attempts of a call with this result are traced after the others: each attempt of the call,
  -- once. The attempts were made one after the other, between these two times
  -- Not said: how the tracer's clock runs; it may stand still. If nothing is traced, or if there
  -- was no room for all attempts, only the order of the two times is said.
  pub record HasTraced {A X : Type 0} (result : Result A X) (v v' : Client) (from to : ℕ)
      (before after : Option (List Trace)) : Type 0 where
    pub later : from ≤ to
    pub each : (all : List Trace) → after ≡ Some all →
        (earlier : List Trace) × (more : List Trace) × (before ≡ Some earlier)
        × (all ≡ earlier ++ more) × AreOfEnd result v v' more
        × (v.attempt.number + length more ≡ v'.attempt.number)
        × AreMadeInTurn from more to

-- the conflict that an attempt stopped for, if it stopped for one
abbrev pub conflict_of : Stop → Option ConflictMet
conflict_of Memory = None
conflict_of (Conflict conflict) = Some conflict
conflict_of (Spent version) = None

abbrev pub conflict_in : {A : Type 0} → Result A Stop → Option ConflictMet
conflict_in (Ok a) = None
conflict_in (Err stop) = conflict_of stop

-- the counts with these conflicts added; the list has the newest conflict first
abbrev pub tally_with : {T : Type 0} → (Option ConflictMet → T → T) → T → List ConflictMet → T
tally_with more tally [] = tally
tally_with more tally (conflict ∷ earlier) = more (Some conflict) (tally_with more tally earlier)

-- each attempt of a call was counted, in turn, with the conflict that it stopped for, if there is
-- one
pub record HasTallied {A T : Type 0} (Shows : ConflictMet → Client → Type 0)
    (more : Option ConflictMet → T → T) (tries : ℕ) (result : Result A Stop) (v v' : Client)
    (before after : T) : Type 0 where
  pub attempts : AreTries Shows tries v v'
  pub tallied : after ≡ more (conflict_in result)
      (tally_with more before (met_in Shows attempts.missed v attempts.before attempts.misses))
