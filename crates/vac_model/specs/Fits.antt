-- The bounds on a state that the arithmetic of the plain manager needs.
use Rattle.std.specs.Prelude.{◌≡◌, ℕ, ◌+◌, ◌*◌, ◌≤◌, Some, List, [], ◌∷◌, if◌then◌else◌}
use Rattle.std.specs.Ordering.{eq_by_cmp}
use Rattle.vac_model.specs.declared.limits.TheConstants.{MOST_BLOCKS, MOST_AMOUNT}
use Rattle.vac_model.specs.declared.items.Kind.{Kind}
use Rattle.vac_model.specs.declared.items.Item.{Item}
use Rattle.vac_model.specs.State.{State, Booking, Place, place_cmp, item_of}
use Rattle.vac_model.specs.Step.{total_limit, unit_limit}
use Rattle.vac_model.specs.Balanced.{IsBalanced}

-- the largest number of entries of a plain manager
abbrev pub most_blocks : ℕ
most_blocks = MOST_BLOCKS

-- the state is balanced and its capacity is within the limit
pub record IsSmall (s : State) : Type 0 where
  pub balanced : IsBalanced s
  pub small : s.capacity ≤ most_blocks

-- the numbers of the item are in their ranges, and its used and free units make the total
pub record IsItemInRange (item : Item) : Type 0 where
  pub few_units : item.total ≤ total_limit
  pub price_range : item.price ≤ MOST_AMOUNT
  pub counts : item.used + item.free ≡ item.total

-- the units of one item among these bookings
abbrev pub units_among : List (Place × Booking) → Place → ℕ
units_among [] place = 0
units_among (b ∷ bs) place =
    (if eq_by_cmp place_cmp place b.0 then b.1.units else 0) + units_among bs place

-- the items are in their ranges, and at least as many units of each are used as these bookings
-- have
pub record CanGiveBack (s : State) (bookings : List (Place × Booking)) : Type 0 where
  pub in_range : (kind : Kind) (id : ℕ) (item : Item) → item_of s kind id ≡ Some item →
      IsItemInRange item
  pub used : (kind : Kind) (id : ℕ) (item : Item) → item_of s kind id ≡ Some item
      → units_among bookings (kind, id) ≤ item.used

-- the numbers of the booking are in their ranges
pub record IsBookingInRange (b : Booking) : Type 0 where
  pub few_units : b.units ≤ unit_limit
  pub sum_range : b.sum ≤ b.units * MOST_AMOUNT
