use Rattle.std.proofs.Common.{◌≡◌}
use Rattle.vac_tasks.proofs.BookingWalk.{BookingWalk}
use Rattle.vac_tasks.proofs.customer_report.sums_of_customer.Given as goal

abbrev pub invariant-loop : goal.invariant-loop
invariant-loop g l = record {
  origin : g.M.TxRead.origin l.memory ≡ g.M.TxRead.origin l.fn.memory;
  walk : BookingWalk (g.M.TxRead.view l.fn.memory) (g.M.TxRead.view l.memory) l.fn.customer l.next l.counter l.units
      l.billed;
}
