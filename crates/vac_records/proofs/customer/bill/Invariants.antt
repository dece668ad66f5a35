use Rattle.std.proofs.Common.{◌≡◌}
use Rattle.vac_records.proofs.Billing.{Billing}
use Rattle.vac_records.proofs.customer.bill.Given as goal

abbrev pub invariant-loop : goal.invariant-loop
invariant-loop g l = record {
  origin : g.M.TxRead.origin l.memory ≡ g.M.TxRead.origin l.fn.memory;
  billing : Billing (g.M.TxRead.view l.fn.memory) (g.M.TxRead.view l.memory) l.fn.customer l.next l.counter l.total;
}
