use Rattle.std.proofs.Common.{◌≡◌}
use Rattle.tx_alloc.proofs.Walking.{Walking}
use Rattle.tx_alloc.proofs.refill.end_of_run.Given as goal

abbrev pub invariant-loop : goal.invariant-loop
invariant-loop g l = record {
  origin : g.M.TxRead.origin l.memory ≡ g.M.TxRead.origin l.initial.memory;
  walking : Walking (g.M.TxRead.view l.initial.memory) (g.M.TxRead.view l.memory) l.fn.block.0 l.last.0 l.behind
      l.counter;
}
