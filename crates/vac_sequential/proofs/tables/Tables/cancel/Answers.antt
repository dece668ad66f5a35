use Rattle.std.proofs.Common.{sym}
use Rattle.vac_model.proofs.Holdings.{units-used}
use Rattle.vac_sequential.proofs.tables.Tables.cancel.Goals as goal

pub given_back-requires-clause-used : goal.given_back-requires-clause-used
given_back-requires-clause-used c =
    units-used c.args.self.now c.args.customer c.in-Some.bookings.now c.args.kind c.args.id c.in-Some-item.item
    c.in-Some-booked.booking
    c.requires.balanced (sym c.in-Some.ensures) (sym c.in-Some-item.ensures) (sym c.in-Some-booked.ensures)
