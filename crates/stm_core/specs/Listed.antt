-- The records and the list of events: which event decided each record, and where the events of its
-- attempt stand. The position of an event is the number of events before it.
use Rattle.std.specs.Prelude.{◌≡◌, ◌≢◌, ℕ, zero, suc, ◌+◌, ◌<◌, ◌≤◌, ◌↔◌, Bool, true, false, cond, eqb, List, [], ◌∷◌, ◌++◌, length}
use Rattle.tx_memory.specs.Image.{In}
use mathlib.Core.Option.{some}
use lib.ListN.{get_elem?}
use Rattle.stm_core.specs.Client.{Record}
use Rattle.stm_core.specs.Event.{Action, begin, tick, put, decision}
use Rattle.stm_core.specs.Core.{Core, Event, acts, stamp_of, client_of, found, played}

-- true if the event is a begin of client k
abbrev pub is_begin_of : ℕ → Event → Bool
is_begin_of k (acts j begin) = eqb j k
is_begin_of k _ = false

-- the number of attempts that client k begins with the events before a position
abbrev pub begins : ℕ → List Event → ℕ → ℕ
begins k es zero = 0
begins k [] (suc n) = 0
begins k (e ∷ es) (suc n) = cond (is_begin_of k e) 1 0 + begins k es n

-- the event at a position of the list is this step of client k, and belongs to its attempt with
-- this number
abbrev pub IsStepOf : List Event → (client attempt place : ℕ) → Action → Type 0
IsStepOf events k attempt n action =
    (get_elem? events n ≡ some (acts k action)) × (begins k events (suc n) ≡ attempt)

-- the records that an event decides: one or none
abbrev pub made : (ℕ → ℕ) → Event → Core → List Record
made lk (acts k action) c = decision (stamp_of c k) action (found lk c action) (client_of c k)
made lk _ c = []

module _ (lk : ℕ → ℕ) where
  -- the core just before the event at a position
  abbrev pub core_at : Core → List Event → ℕ → Core
  core_at c es zero = c
  core_at c [] (suc n) = c
  core_at c (e ∷ es) (suc n) = core_at (played lk e c) es n

  -- all records that the events of the list decide
  abbrev pub decisions : Core → List Event → List Record
  decisions c [] = []
  decisions c (e ∷ es) = made lk e c ++ decisions (played lk e c) es

  module _ (start : Core) (events : List Event) where
    -- the event at the position decides the client's attempt with this number, and r is the record
    abbrev pub IsDecision : (client attempt place : ℕ) → Record → Type 0
    IsDecision k attempt n r =
        (action : Action) × IsStepOf events k attempt n action
        × (made lk (acts k action) (core_at start events n) ≡ r ∷ [])

    -- the record r was decided by a step of its own client in its own attempt, and its point step
    -- belongs to that attempt
    pub record IsMade (r : Record) : Type 0 where
      -- the position of the deciding step
      pub decided_at : ℕ
      pub decided : IsDecision r.client r.attempt decided_at r
      -- the point step comes at the deciding step or before. For a reader, the point step is the
      -- attempt's begin, which found the record's version
      pub point : r.point ≤ decided_at
      pub reader : r.writer ≡ false
          → IsStepOf events r.client r.attempt r.point begin
          × ((core_at start events r.point).clock ≡ r.version)
      -- for a writer, the point step is the won tick, with the record's tag and writes; the tick
      -- found the version before the record's
      pub writer : r.writer ≡ true
          → (from : ℕ) × IsStepOf events r.client r.attempt r.point (tick from r.tag r.writes)
          × ((core_at start events r.point).clock ≡ from) × (r.version ≡ from + 1)
      -- the attempt began at its point step or before
      pub began_at : ℕ
      pub began : IsStepOf events r.client r.attempt began_at begin
      pub begins_first : began_at ≤ r.point

    -- no event decides the attempt
    abbrev pub IsUndecided : (client attempt : ℕ) → Type 0
    IsUndecided k attempt = (n : ℕ) (r : Record) → IsDecision k attempt n r → ⊥

    -- the records are exactly those that the list of events decides, in an order that keeps real
    -- time
    pub record IsOfList (records : List Record) : Type 0 where
      -- each deciding event adds one record, and no other event adds any
      pub all : (r : Record) → In r records ↔ In r (decisions start events)
      pub as_many : length records ≡ length (decisions start events)
      -- the point of each record is a step of the record's own attempt
      pub each : (r : Record) → In r records → IsMade r
      -- an attempt that ended before another began comes before it in the order
      pub in_time : (i j n : ℕ) (x y : Record) → get_elem? records i ≡ some x
          → get_elem? records j ≡ some y → IsStepOf events y.client y.attempt n begin
          → ((m : ℕ) (action : Action) → IsStepOf events x.client x.attempt m action → m < n)
          → i < j
      -- a stored value is a write of a record of the same attempt, which was decided before the
      -- store
      pub stored : (k attempt n a x : ℕ) → IsStepOf events k attempt n (put a x)
          → (r : Record) × In r records × (r.client ≡ k) × (r.attempt ≡ attempt)
          × (r.writer ≡ true) × In (a, x) r.writes
          × ((m : ℕ) × (m < n) × IsDecision k attempt m r)
      -- an attempt that is never decided has no record, and none of its events stores a data word
      pub no_trace : (k attempt : ℕ) → IsUndecided k attempt
          → ((r : Record) → In r records → r.client ≡ k → r.attempt ≢ attempt)
          × ((n a x : ℕ) → IsStepOf events k attempt n (put a x) → ⊥)
