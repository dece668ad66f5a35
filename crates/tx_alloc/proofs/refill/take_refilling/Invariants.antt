use Rattle.std.proofs.Common.{◌≡◌}
use Rattle.tx_alloc.proofs.Taking.{Looking}
use Rattle.tx_alloc.proofs.refill.take_refilling.Given as goal

abbrev pub invariant-loop-i : goal.invariant-loop-i
invariant-loop-i g l = record {
  origin : g.M.TxRead.origin l.memory ≡ g.M.TxRead.origin l.initial.memory;
  looking : Looking (g.M.TxRead.view l.initial.memory) (g.M.TxRead.view l.memory) l.list l.i;
}
