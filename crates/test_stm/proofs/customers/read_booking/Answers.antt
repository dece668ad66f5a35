use Rattle.test_stm.proofs.Owned.{booking_node, one_read}
use Rattle.test_stm.proofs.customers.read_booking.Goals as goal

pub units_at-requires : goal.units_at-requires
units_at-requires g c = booking_node _ _ _ _ c.requires.booking

pub returns-clause-booking : goal.returns-clause-booking
returns-clause-booking g c =
    one_read _ _ _ _ (one_read _ _ _ _ c.requires.booking _ c.in_ok-units.ensures.answer.kept
    c.in_ok-units.ensures.answer.writes) _ c.in_ok-sum.ensures.answer.kept c.in_ok-sum.ensures.answer.writes
