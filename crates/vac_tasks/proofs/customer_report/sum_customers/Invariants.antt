use Rattle.std.proofs.Common.{◌≡◌}
use Rattle.vac_tasks.proofs.CustomerWalk.{CustomerWalk}
use Rattle.vac_tasks.proofs.customer_report.sum_customers.Given as goal

abbrev pub invariant-loop : goal.invariant-loop
invariant-loop g l = record {
  origin : g.M.TxRead.origin l.memory ≡ g.M.TxRead.origin l.fn.memory;
  walk : CustomerWalk (g.M.TxRead.view l.fn.memory) (g.M.TxRead.view l.memory) l.walk l.counter l.sums;
}
