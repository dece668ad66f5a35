use Rattle.vac_audit.specs.Noted.{HasShortId, least_next}
use Rattle.vac_audit.proofs.Booked.{BookGoes}
use Rattle.vac_audit.proofs.bookings.walk_bookings.Given as goal

abbrev pub invariant-loop-level : goal.invariant-loop-level
invariant-loop-level l = BookGoes l.words l.initial.reached.items l.head l.reached.items l.initial.notes l.notes
    l._level l.at (least_next l.last) × HasShortId l.last
