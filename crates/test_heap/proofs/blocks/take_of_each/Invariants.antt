use Rattle.std.proofs.Common.{◌≡◌}
use Rattle.tx_alloc.specs.Pool.{HasPool}
use Rattle.test_heap.proofs.blocks.take_of_each.Given as goal

abbrev pub invariant-loop-list : goal.invariant-loop-list
invariant-loop-list g l = record {
  origin : g.M.TxRead.origin l.memory ≡ g.M.TxRead.origin l.initial.memory;
  pool : HasPool (g.M.TxRead.view l.memory);
}
