-- A change of one booking of a customer.
use Rattle.std.specs.Prelude.{Option, None, Some}
use Rattle.std.specs.FinMap.{insert, remove}
use Rattle.vac_model.specs.declared.items.Booking.{Booking}
use Rattle.vac_model.specs.State.{Bookings, Place}

-- the bookings with this one at a place: the booking is inserted, or removed if it is None
abbrev pub with_booking : Bookings → Place → Option Booking → Bookings
with_booking m place None = remove m place
with_booking m place (Some b) = insert m place b
