-- The state that the parts of a sound heap are.
use Rattle.std.specs.Prelude.{◌≡◌, ℕ, ◌+◌, ◌*◌, List, [], ◌∷◌}
use Rattle.std.specs.FinMap.{from_entries, entries}
use Rattle.vac_model.specs.declared.items.Kind.{Kind}
use Rattle.vac_model.specs.State.{State, Bookings, kind_number, table_of, report}
use Rattle.tx_alloc.specs.Rows.{Rows}
use Rattle.vac_records.specs.Heap.{Parts}
use Rattle.vac_records.specs.Represents.{items_in, bookings_in, customers_in, opened_bookings}
use Rattle.vac_audit.specs.Walk.{report_of}
use Rattle.vac_audit.proofs.Sound.{IsSound}

-- the customers' ids with their bookings
abbrev pub customers_of : (ℕ → ℕ) → (ℕ → Rows) → Rows → List (ℕ × Bookings)
customers_of m lists [] = []
customers_of m lists (r ∷ rs) = (r.0, from_entries (bookings_in m (lists r.1))) ∷ customers_of m lists rs

abbrev pub state_of : (ℕ → ℕ) → ℕ → Parts → State
state_of m blocks p = record {
  capacity = blocks;
  cars = from_entries (items_in m (p.tables 0));
  flights = from_entries (items_in m (p.tables 1));
  rooms = from_entries (items_in m (p.tables 2));
  customers = from_entries (customers_of m p.lists (p.tables 3));
}

-- these parts have a state's entries
pub record Shows (m : ℕ → ℕ) (n : ℕ) (p : Parts) (s : State) : Type 0 where
  pub size : n ≡ 16 + 8 * s.capacity
  pub items : (kind : Kind) → entries (table_of s kind) ≡ items_in m (p.tables (kind_number kind))
  pub customers : opened_bookings (entries s.customers) ≡ customers_in m p.lists (p.tables 3)

-- the parts of a sound heap are those of a state, and its report is the report of that state
abbrev pub StateLaw : Type 0
StateLaw = (m : ℕ → ℕ) (blocks : ℕ) (p : Parts) → IsSound m (16 + 8 * blocks) p →
    Shows m (16 + 8 * blocks) p (state_of m blocks p) × (report_of m p ≡ report (state_of m blocks p))
