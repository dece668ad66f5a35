-- The real time of a run: the order of its states, beside the order of the records in its one list.
use Rattle.std.specs.Prelude.{◌≡◌, ℕ, suc, ◌<◌, ◌≤◌, false, List, [], ◌∷◌, ◌++◌, length}
use mathlib.Core.Option.{some}
use lib.ListN.{get_elem?}
use Rattle.tx_memory.specs.Image.{In}
use Rattle.stm_core.specs.Client.{Client, Record, RecordLaw}
use Rattle.stm_core.specs.Core.{Event}
use Rattle.stm_core.specs.Event.{Action, begin, decision}
use Rattle.stm_core.specs.Listed.{begins, IsStepOf}
use Rattle.stm_region.specs.Shown.{unplaced}
use Rattle.stm_region.specs.Traced.{unplaced_record}
use Rattle.stm_region.specs.Runs.{Moment, Move, step, word_at, Has, Listing, IsRun, HasOneList}

module _ {lawful : RecordLaw} {moments : ℕ → Moment} {moves : ℕ → Move}
    {first : Listing lawful (moments 0)} (one : HasOneList lawful moments moves first) where
  -- the list of events that leads to the state at n
  abbrev pub events_at : ℕ → List Event
  events_at n = (one.lists n).events

  -- the committed attempts of the state at n, in the order of their point steps. Every statement of
  -- the core theorem holds of this history (`stands` of `IsListed`)
  abbrev pub history_at : ℕ → List Record
  history_at n = (one.lists n).stands.earlier ++ (one.lists n).stands.present

  -- the number of attempts that the client has begun when the region is in the state at n
  abbrev pub begun_at : (client n : ℕ) → ℕ
  begun_at k n = begins k (events_at n) (length (events_at n))

  -- the number in the list of the client at this index of the table in the state at n
  abbrev pub client_at : (n index : ℕ) → ℕ
  client_at n i = suc ((one.lists n).clients.number i)

  -- the move at n is a step of the client at this index, which has the value v before the move. The
  -- step decides the client's attempt, and r is the attempt's record as the region keeps it
  abbrev pub IsDecidingMove : (n index : ℕ) → Client → Record → Type 0
  IsDecidingMove n i v r =
      (action : Action) × (moves n ≡ step i action) × Has (moments n) i v
      × (decision (unplaced (moments n).opened.renewal) action (word_at (moments n) action) v
      ≡ r ∷ [])

  -- the record x comes before the record y in the history of the state at n
  abbrev pub ComesBefore : (n : ℕ) → (x y : Record) → Type 0
  ComesBefore n x y =
      (i : ℕ) × (j : ℕ) × (get_elem? (history_at n) i ≡ some x)
      × (get_elem? (history_at n) j ≡ some y) × (i < j)

  -- the order of the records keeps the real time of the run. A call that has returned in the state
  -- at m has its record in the client's value there. A call that begins later begins its attempts
  -- after that state. So its records come later, whichever clients make the two calls
  pub record KeepsRealTime : Type 0 where
    -- a record that has been made stays
    pub stays : (m n : ℕ) (r : Record) → m ≤ n → In r (history_at m) → In r (history_at n)
    -- a record of the state at m comes before each record whose attempt begins after that state
    pub in_time : (m n i j : ℕ) (x y : Record) → m ≤ n → In x (history_at m)
        → begun_at y.client m < y.attempt → get_elem? (history_at n) i ≡ some x
        → get_elem? (history_at n) j ≡ some y → i < j
    -- a move that decides an attempt makes the attempt's record
    pub decides : (n i : ℕ) (v : Client) (r : Record) → IsDecidingMove n i v r
        → (x : Record) × In x (history_at (suc n)) × (unplaced_record x ≡ r)
        × (x.client ≡ client_at n i) × (x.attempt ≡ v.attempt.number)
    -- of two attempts, of which the second began after the move that decided the first, the record
    -- of the first comes before that of the second
    pub calls : (m n i j : ℕ) (v w : Client) (r s : Record) → m < n → IsDecidingMove m i v r
        → IsDecidingMove n j w s → begun_at (client_at n j) (suc m) < w.attempt.number
        → (x : Record) × (y : Record) × (unplaced_record x ≡ r) × (unplaced_record y ≡ s)
        × ComesBefore (suc n) x y
    -- each record of a client's value is in the history, apart from the fields that a region does
    -- not keep
    pub has : (n i : ℕ) (v : Client) (r : Record) → Has (moments n) i v → In r v.records
        → (x : Record) × In x (history_at n) × (unplaced_record x ≡ r)
    -- the number of a client's attempt is the number of attempts that the client has begun
    pub counts : (n i : ℕ) (v : Client) → Has (moments n) i v → v.is_gathered ≡ false
        → v.attempt.number ≡ begun_at (client_at n i) n
    -- the attempts that a client begins between two states: each begins at an event between them
    pub between : (m n k attempt : ℕ) → m ≤ n → begun_at k m < attempt → attempt ≤ begun_at k n
        → (place : ℕ) × (length (events_at m) ≤ place) × (place < length (events_at n))
        × IsStepOf (events_at n) k attempt place begin

-- the order of the records keeps the real time of every run
abbrev pub EveryRunKeepsRealTime : (List ℕ → Type 0) → RecordLaw → Type 0
EveryRunKeepsRealTime fits lawful =
    (moments : ℕ → Moment) (moves : ℕ → Move) → IsRun fits lawful moments moves
    → (first : Listing lawful (moments 0)) (one : HasOneList lawful moments moves first)
    → KeepsRealTime one
