use Rattle.std.proofs.Common.{◌≡◌}
use Rattle.vac_tasks.proofs.ItemWalk.{ItemWalk}
use Rattle.vac_tasks.proofs.item_report.sum_items.Given as goal

abbrev pub invariant-loop : goal.invariant-loop
invariant-loop g l = record {
  origin : g.M.TxRead.origin l.memory ≡ g.M.TxRead.origin l.fn.memory;
  walk : ItemWalk (g.M.TxRead.view l.fn.memory) (g.M.TxRead.view l.memory) l.fn.kind l.walk l.counter l.sums;
}
