use Rattle.std.proofs.Common.{sym}
use Rattle.vac_model.proofs.Bounds.{bill_small}
use Rattle.vac_sequential.proofs.tables.Tables.bill.Goals as goal

pub bill-requires : goal.bill-requires
bill-requires c = bill_small c.args.self.now c.args.customer c.in_ok-bookings.bookings.now c.requires
    (sym c.in_ok-bookings.ensures)
