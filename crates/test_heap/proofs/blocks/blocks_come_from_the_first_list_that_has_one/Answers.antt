use Rattle.std.proofs.Common.{arith}
use Rattle.tx_alloc.proofs.After.{flat_spread}
use Rattle.test_heap.proofs.blocks.blocks_come_from_the_first_list_that_has_one.Goals as goal

pub take_three-requires : goal.take_three-requires
take_three-requires g c = record {
  pool = flat_spread _ _ 10 c.new-flat.ensures (omega arith)
      c.in_ok-words.ensures.words c.in_ok-words.ensures.pool;
}
