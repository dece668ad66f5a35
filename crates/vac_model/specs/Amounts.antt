-- The ranges of single numbers in commands and tasks. They are this product's own.
use Rattle.std.specs.Prelude.{ℕ, ◌^◌, Bool, true, false, ◌&&◌, Option, Some, None, nat_le, nat_lt}
use Rattle.vac_model.specs.declared.limits.TheConstants.{MOST_AMOUNT, MOST_UNITS_AT_ONCE, MOST_PARTS}
use Rattle.vac_model.specs.declared.items.Kind.{Kind}
use Rattle.vac_model.specs.declared.items.Kind.TheVariants.{Car, Flight, Room}

-- an id is 1 to 4,294,967,295
abbrev pub is_id : ℕ → Bool
is_id n = nat_le 1 n && nat_lt n (2 ^ 32)

-- a count or a price is 0 to 1,000,000
abbrev pub is_amount : ℕ → Bool
is_amount n = nat_le n MOST_AMOUNT

-- a price is 0 to 1,000,000, if it is given
abbrev pub is_optional_amount : Option ℕ → Bool
is_optional_amount None = true
is_optional_amount (Some n) = is_amount n

-- a reservation is for 1 to 100 units
abbrev pub is_unit_count : ℕ → Bool
is_unit_count n = nat_le 1 n && nat_le n MOST_UNITS_AT_ONCE

-- true if units of this kind can be deleted: those of cars and rooms. A flight is dropped as a
-- whole
abbrev pub has_deletable_units : Kind → Bool
has_deletable_units Car = true
has_deletable_units Flight = false
has_deletable_units Room = true

-- a trip has 1 to 32 asks, and an update 1 to 32 changes
abbrev pub is_list_length : ℕ → Bool
is_list_length n = nat_le 1 n && nat_le n MOST_PARTS
