-- Runs of a region: the states of its table one after the other, each reached from the one before
-- by one move of a client, and the one list of events of the whole run.
use Rattle.std.specs.Prelude.{◌≡◌, ◌≢◌, ℕ, suc, ◌+◌, ◌<◌, ◌≤◌, List, [], ◌∷◌, ◌++◌, length, drop, replicate, slice_index, slice_set}
use mathlib.Core.Option.{some}
use lib.ListN.{get_elem?}
use Rattle.atomic_table.specs.Table.{State, opening}
use Rattle.stm_core.specs.Client.{Client, RecordLaw}
use Rattle.stm_core.specs.Core.{Core, Event, opened, acts, splits, gathers, renews, left, IsFreeHanded}
use Rattle.stm_core.specs.Event.{Action, Bounds, after, giving, fresh, gone, renewing}
use Rattle.stm_core.specs.Guards.{May, stripe_of}
use Rattle.stm_region.specs.Shown.{Opened, unplaced, with_gathered}
use Rattle.stm_region.specs.Layout.{place, first_cell, InRange}
use Rattle.stm_region.specs.Refused.{MayRenew}
use Rattle.stm_region.specs.Rule.{IsCoreState}
use Rattle.stm_region.specs.Running.{IsListed}

-- a region between two steps of its threads: its opening, and its table with the words and the
-- clients' values
pub record Moment : Type 0 where
  pub opened : Opened
  pub table : State (Unit {0}) Client

-- a move of a region: a step of a client, a split, a gathering, a renewal of the clock, or none.
-- Moves name clients by their indices in the table
pub data Move : Type 0 where
  step : (index : ℕ) → Action → Move
  split : (index : ℕ) → Move
  gather : (index other : ℕ) → Move
  renew : (index last : ℕ) → Move
  -- no client moves. A run that ends rests from then on
  rest : Move

-- the word of the table that the step finds
abbrev pub word_at : Moment → Action → ℕ
word_at m action = slice_index m.table.words (place m.opened.stripes action)

-- the region after a client's step: the step's word is what the step leaves of it, and the client's
-- value is what the step makes of the value. All other words and values are as before
abbrev pub step_from : Moment → ℕ → Action → Client → Moment
step_from m i action v = record m {
  table = record m.table {
    words = slice_set m.table.words (place m.opened.stripes action)
        (left action (word_at m action) v);
    views = slice_set m.table.views i
        (after (unplaced m.opened.renewal) (stripe_of m.opened.stripes) action (word_at m action)
        v);
  };
}

-- the region after the client split off another, which comes last
abbrev pub split_from : Moment → ℕ → Client → Moment
split_from m i v = record m {
  table = record m.table { views = slice_set m.table.views i (giving v) ++ fresh v ∷ [] };
}

-- the region after the client at index i gathered the client at index j
abbrev pub gather_from : Moment → ℕ → Client → ℕ → Client → Moment
gather_from m i v j w = record m {
  table = record m.table {
    views = slice_set (slice_set m.table.views i (with_gathered v w)) j gone;
  };
}

-- the data words of the table
abbrev pub data_words : Moment → List ℕ
data_words m = drop (first_cell m.opened.stripes) m.table.words

-- the region after a renewal: a new table with the same data words, in which every other word is 0
-- and the client is the only one
abbrev pub renewed_from : Moment → ℕ → Client → Moment
renewed_from m last v = record {
  opened = record {
    image = data_words m;
    last = last;
    stripes = m.opened.stripes;
    first = m.opened.first;
    renewal = m.opened.renewal + 1;
    start = renewing v;
  };
  table = opening (replicate (first_cell m.opened.stripes) 0 ++ data_words m) [] (renewing v);
}

-- the bounds of a region's steps
abbrev pub bounds_at : Opened → Bounds
bounds_at o = record { last = o.last; stripes = o.stripes; size = length o.image }

-- the client at the index has this value
abbrev pub Has : Moment → ℕ → Client → Type 0
Has m i v = get_elem? m.table.views i ≡ some v

-- the move is allowed to the clients that make it, and takes the region from the one moment to the
-- other
abbrev pub Moves : RecordLaw → Moment → Move → Moment → Type 0
Moves lawful m (step i action) m' =
    (v : Client) × Has m i v × InRange m.opened.stripes (length m.opened.image) action
    × May lawful (stripe_of m.opened.stripes) (bounds_at m.opened) action v
    × (m' ≡ step_from m i action v)
Moves lawful m (split i) m' =
    (v : Client) × Has m i v × IsFreeHanded v × (0 < v.grants) × (m' ≡ split_from m i v)
Moves lawful m (gather i j) m' =
    (v : Client) × (w : Client) × Has m i v × Has m j w × (i ≢ j) × IsFreeHanded v
    × IsFreeHanded w × (m' ≡ gather_from m i v j w)
Moves lawful m (renew i last) m' =
    (v : Client) × Has m i v × IsFreeHanded v × MayRenew m.opened.renewal last v.grants
    × (m' ≡ renewed_from m last v)
Moves lawful m rest m' = m' ≡ m

-- the events of a move in a list of events: one, or none if no client moves. Events name a client
-- by its number in the list, which is one more than its index in the list's core
abbrev pub events_of : (ℕ → ℕ) → Move → List Event
events_of number (step i action) = acts (suc (number i)) action ∷ []
events_of number (split i) = splits (suc (number i)) ∷ []
events_of number (gather i j) = gathers (suc (number i)) (suc (number j)) ∷ []
events_of number (renew i last) = renews (suc (number i)) last ∷ []
events_of number rest = []

-- each client has the same index in the list's core before and after the move. A renewal leaves one
-- client, at index 0 of the new table
abbrev pub KeepsNumbers : Move → (before after : ℕ → ℕ) → ℕ → Type 0
KeepsNumbers (renew i last) before after size = after 0 ≡ before i
KeepsNumbers _ before after size = (i : ℕ) → i < size → after i ≡ before i

-- the region meets its invariant
abbrev pub Stands : (List ℕ → Type 0) → RecordLaw → Moment → Type 0
Stands fits lawful m = IsCoreState fits lawful m.opened m.table

-- a list of allowed events that leads to the region's state
abbrev pub Listing : RecordLaw → Moment → Type 0
Listing lawful m = IsListed lawful m.opened m.table

-- the core with which the list begins: the first opening
abbrev pub start_of : {lawful : RecordLaw} {m : Moment} → Listing lawful m → Core
start_of {lawful} {m} t = opened m.opened.first t.last m.opened.stripes

-- the later list is the earlier one with the event of this move at its end, and nothing else. Both
-- begin with one opening, and each client has one number in both
pub record GoesOn (lawful : RecordLaw) {m m' : Moment} (earlier : Listing lawful m) (move : Move)
    (later : Listing lawful m') : Type 0 where
  pub first : m'.opened.first ≡ m.opened.first
  pub stripes : m'.opened.stripes ≡ m.opened.stripes
  pub last : later.last ≡ earlier.last
  pub events : later.events ≡ earlier.events ++ events_of earlier.clients.number move
  pub numbers : KeepsNumbers move earlier.clients.number later.clients.number
      (length m.table.views)

-- a move keeps the invariant. Whatever list of events leads to the state before the move: that list
-- with the event of the move at its end leads to the state after it
abbrev pub EveryListGoesOn : (List ℕ → Type 0) → RecordLaw → Type 0
EveryListGoesOn fits lawful =
    (m m' : Moment) (move : Move) → Stands fits lawful m → Moves lawful m move m'
    → Stands fits lawful m'
    × ((t : Listing lawful m) → (t' : Listing lawful m') × GoesOn lawful t move t')

-- a run of a region from a state that meets its invariant. These calls of `Region` make one move
-- each: `begin`, `probe`, `probe_to_lock`, `fetch`, `check`, `lock`, `tick`, `validate`, `put`,
-- `release`, `give_back` and `finish` make a step, `split` a split, `gather` a gathering, and
-- `renew` a renewal. No other call makes a move
-- Not said: that the states between the accesses of a program's threads are a run. Which state of
-- the table an access meets is known to `atomic_table` alone, so no contract of a call can name it.
-- A client's value has no position in the list either. So a `begin` that returned the clock of an
-- earlier state would meet its contract, if some list of allowed events leads to the region's state
-- and has the client begin in that earlier state.
pub record IsRun (fits : List ℕ → Type 0) (lawful : RecordLaw) (moments : ℕ → Moment)
    (moves : ℕ → Move) : Type 0 where
  pub begins : Stands fits lawful (moments 0)
  pub goes : (n : ℕ) → Moves lawful (moments n) (moves n) (moments (suc n))

-- one list of events for a whole run: the list of each state is the list of the state before it
-- with the event of the move between the two at its end. The list of the first state is the given
-- one
pub record HasOneList (lawful : RecordLaw) (moments : ℕ → Moment) (moves : ℕ → Move)
    (first : Listing lawful (moments 0)) : Type 0 where
  pub lists : (n : ℕ) → Listing lawful (moments n)
  pub begins : lists 0 ≡ first
  pub goes_on : (n : ℕ) → GoesOn lawful (lists n) (moves n) (lists (suc n))
  -- so the list of each state is a prefix of the list of every later state, from one opening
  pub opening : (n : ℕ) → start_of (lists n) ≡ start_of first
  pub stripes : (n : ℕ) → (moments n).opened.stripes ≡ (moments 0).opened.stripes
  pub prefix : (m n : ℕ) → m ≤ n
      → (others : List Event) × ((lists n).events ≡ (lists m).events ++ others)

-- every run has one list of events, whatever list leads to its first state
abbrev pub EveryRunHasOneList : (List ℕ → Type 0) → RecordLaw → Type 0
EveryRunHasOneList fits lawful =
    (moments : ℕ → Moment) (moves : ℕ → Move) → IsRun fits lawful moments moves
    → ((n : ℕ) → Stands fits lawful (moments n))
    × ((first : Listing lawful (moments 0)) → HasOneList lawful moments moves first)
