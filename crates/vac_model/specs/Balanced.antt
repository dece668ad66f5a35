-- Balanced states: used and free units add up, and bookings agree with the items.
use Rattle.std.specs.Prelude.{◌≡◌, ℕ, ◌+◌, ◌*◌, ◌≤◌, true, Some, IsSome}
use Rattle.std.specs.FinMap.{get}
use Rattle.vac_model.specs.declared.limits.TheConstants.{MOST_AMOUNT}
use Rattle.vac_model.specs.Amounts.{is_id}
use Rattle.vac_model.specs.declared.items.Kind.{Kind}
use Rattle.vac_model.specs.declared.items.Item.{Item}
use Rattle.vac_model.specs.State.{State, Booking, Bookings, item_of, bookings_of, units_held, size}
use Rattle.vac_model.specs.Step.{total_limit, unit_limit}

-- an item of a balanced state: its numbers are in their ranges, its used and free units make the
-- total, and its used units are the units that customers hold
pub record IsItem (s : State) (kind : Kind) (id : ℕ) (item : Item) : Type 0 where
  pub id_range : is_id id ≡ true
  pub some_units : 1 ≤ item.total
  pub few_units : item.total ≤ total_limit
  pub price_range : item.price ≤ MOST_AMOUNT
  pub counts : item.used + item.free ≡ item.total
  pub held : item.used ≡ units_held s (kind, id)

-- a booking of a balanced state: its item exists, and its units and the sum of their prices are in
-- their ranges
pub record IsBooking (s : State) (kind : Kind) (id : ℕ) (b : Booking) : Type 0 where
  pub item : IsSome (item_of s kind id)
  pub some_units : 1 ≤ b.units
  pub few_units : b.units ≤ unit_limit
  pub sum_range : b.sum ≤ b.units * MOST_AMOUNT

-- the entries of the state agree with one another and are no more than its capacity
pub record IsBalanced (s : State) : Type 0 where
  pub room : size s ≤ s.capacity
  pub items : (kind : Kind) (id : ℕ) (item : Item) → item_of s kind id ≡ Some item →
      IsItem s kind id item
  pub customers : (id : ℕ) (bookings : Bookings) → bookings_of s id ≡ Some bookings →
      is_id id ≡ true
  pub bookings : (customer : ℕ) (bookings : Bookings) (kind : Kind) (id : ℕ) (b : Booking) →
      bookings_of s customer ≡ Some bookings → get bookings (kind, id) ≡ Some b →
      IsBooking s kind id b
