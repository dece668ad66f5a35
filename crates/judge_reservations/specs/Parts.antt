-- The part of a state on a scope: the items of the scope with their totals and prices, the
-- customers of the scope, and their bookings of items of the scope.
use Rattle.std.specs.Prelude.{◌≡◌, ◌≤◌, ℕ, ◌&&◌, Bool, true, false, Option, None, is_some, if◌then◌else◌}
use Rattle.std.specs.Option.{option_map, option_and_then}
use Rattle.std.specs.FinMap.{get}
use Rattle.vac_model.specs.declared.limits.TheConstants.{MOST_BLOCKS}
use Rattle.vac_model.specs.declared.items.Booking.{Booking}
use Rattle.vac_model.specs.State.{State, Place, item_of, bookings_of}
use Rattle.vac_model.specs.Balanced.{IsBalanced}
use Rattle.judge_reservations.specs.declared.scope.Scope.{Scope}
use Rattle.judge_reservations.specs.Scopes.{has_customer, has_item, is_closed, is_whole}

-- total and price of an item
abbrev pub offer_of : State → Place → Option (ℕ × ℕ)
offer_of s place = option_map (λ item. (item.total, item.price)) (item_of s place.0 place.1)

-- tests if a customer exists
abbrev pub is_customer : State → ℕ → Bool
is_customer s c = is_some (bookings_of s c)

-- the booking of an item by a customer
abbrev pub booking_of : State → ℕ → Place → Option Booking
booking_of s c place = option_and_then (λ bookings. get bookings place) (bookings_of s c)

-- the second state has, of the first one, what belongs to the scope; how many units of an item are
-- used follows from the bookings
pub record IsPart (scope : Scope) (s p : State) : Type 0 where
  pub offers : (place : Place) → offer_of p place
      ≡ (if has_item scope place then offer_of s place else None)
  pub customers : (c : ℕ) → is_customer p c
      ≡ (if has_customer scope c then is_customer s c else false)
  pub bookings : (c : ℕ) (place : Place) → booking_of p c place
      ≡ (if has_customer scope c && has_item scope place then booking_of s c place else None)

-- closed items are booked by customers of the scope alone, and whole customers have booked items of
-- the scope alone
pub record IsConfined (scope : Scope) (s : State) : Type 0 where
  pub closed : (c : ℕ) (place : Place) → is_closed scope place ≡ true →
      has_customer scope c ≡ false → booking_of s c place ≡ None
  pub whole : (c : ℕ) (place : Place) → is_whole scope c ≡ true →
      has_item scope place ≡ false → booking_of s c place ≡ None

-- a state of a system, and its part in a system of the greatest capacity
pub record HasPart (scope : Scope) (s p : State) : Type 0 where
  pub part : IsPart scope s p
  pub confined : IsConfined scope s
  pub balanced : IsBalanced s
  pub part_balanced : IsBalanced p
  pub capacity : s.capacity ≤ MOST_BLOCKS
  pub part_capacity : p.capacity ≡ MOST_BLOCKS
