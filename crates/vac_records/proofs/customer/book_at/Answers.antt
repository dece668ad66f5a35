use Rattle.std.proofs.Common.{rules}
use Rattle.vac_records.proofs.Hanging.{booked_after}
use Rattle.vac_records.proofs.customer.book_at.Goals as goal

pub init_booking-requires : goal.init_booking-requires
init_booking-requires g c = record { node = c.requires.block; sum = c.requires.sum }

pub returns-clause-answer : goal.returns-clause-answer
returns-clause-answer g c = booked_after _ _ _ _ _ _ _ _ _ (search rules) c.in_ok-init_booking.ensures.answer
    c.in_ok-insert_at.ensures.answer
