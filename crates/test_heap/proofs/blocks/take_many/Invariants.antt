use Rattle.std.proofs.Common.{◌≡◌}
use Rattle.tx_alloc.specs.Pool.{HasPool}
use Rattle.test_heap.proofs.blocks.take_many.Given as goal

abbrev pub invariant-loop : goal.invariant-loop
invariant-loop g l = record {
  origin : g.M.TxRead.origin l.memory ≡ g.M.TxRead.origin l.initial.memory;
  pool : HasPool (g.M.TxRead.view l.memory);
}
