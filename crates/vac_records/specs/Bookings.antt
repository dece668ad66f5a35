-- Bookings in blocks of a transactional memory. The words of a block are kind, id, sum, next,
-- units.
use Rattle.std.specs.Prelude.{ℕ, ◌+◌}
use Rattle.vac_bookings.specs.Bookings.{key_code}
use Rattle.vac_bookings.specs.declared.place.TheConstants.{ID, SUM, UNITS}
use Rattle.vac_model.specs.declared.items.Booking.{Booking}
use Rattle.vac_model.specs.Coded.{kind_of_number}
use Rattle.vac_model.specs.State.{Place, kind_number}

-- the kind and the id of the item of the booking in the block that starts at a
abbrev pub place_in : (ℕ → ℕ) → ℕ → Place
place_in m a = (kind_of_number (m a), m (a + ID))

-- the booking in the block that starts at a
abbrev pub booking_in : (ℕ → ℕ) → ℕ → Booking
booking_in m a = record { units = m (a + UNITS); sum = m (a + SUM) }

-- the key of a place's booking in a customer's list, which orders by kind and then by id
abbrev pub place_key : Place → ℕ
place_key place = key_code (kind_number place.0) place.1
