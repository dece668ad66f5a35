-- The representation of a state of the reservation system by a memory.
use Rattle.std.specs.Prelude.{◌≡◌, ℕ, List, [], map}
use Rattle.std.specs.FinMap.{entries}
use Rattle.vac_model.specs.declared.items.Kind.{Kind}
use Rattle.vac_model.specs.declared.items.Item.{Item}
use Rattle.vac_model.specs.declared.items.Booking.{Booking}
use Rattle.vac_model.specs.State.{State, Bookings, Place, kind_number, table_of}
use Rattle.vac_model.specs.Fits.{IsSmall}
use Rattle.tx_alloc.specs.Pool.{heap_words}
use Rattle.tx_alloc.specs.Rows.{Rows}
use Rattle.vac_records.specs.Items.{item_in}
use Rattle.vac_records.specs.Bookings.{place_in, booking_in}
use Rattle.vac_records.specs.Heap.{Parts, IsHeap}

-- the entries of a table of items
abbrev pub items_in : (ℕ → ℕ) → Rows → List (ℕ × Item)
items_in m rows = map (λ r. (r.0, item_in m r.1)) rows

-- the entries of a list of bookings
abbrev pub bookings_in : (ℕ → ℕ) → Rows → List (Place × Booking)
bookings_in m rows = map (λ r. (place_in m r.1, booking_in m r.1)) rows

-- the customers' ids with the entries of their lists
abbrev pub customers_in : (ℕ → ℕ) → (ℕ → Rows) → Rows → List (ℕ × List (Place × Booking))
customers_in m lists rows = map (λ r. (r.0, bookings_in m (lists r.1))) rows

-- the customers of a state with the entries of their bookings
abbrev pub opened_bookings : List (ℕ × Bookings) → List (ℕ × List (Place × Booking))
opened_bookings customers = map (λ c. (c.0, entries c.1)) customers

-- a memory of n words represents a state while these blocks are in hand. Each block is an entry of
-- one structure, free or in hand, and the structures have the entries of the state
pub record Represents (m : ℕ → ℕ) (n : ℕ) (out : List ℕ) (s : State) : Type 0 where
  pub size : n ≡ heap_words s.capacity
  pub parts : Parts
  pub heap : IsHeap m n parts
  pub held : parts.out ≡ out
  pub items : (kind : Kind) →
      entries (table_of s kind) ≡ items_in m (parts.tables (kind_number kind))
  pub customers : opened_bookings (entries s.customers)
      ≡ customers_in m parts.lists (parts.tables 3)

-- a memory of n words represents a balanced state of at most 262,144 blocks, and no block is in
-- hand
pub record IsState (m : ℕ → ℕ) (n : ℕ) (s : State) : Type 0 where
  pub represents : Represents m n [] s
  pub small : IsSmall s
