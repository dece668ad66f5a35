use Rattle.std.proofs.Common.{arith}
use Rattle.tx_alloc.proofs.After.{flat_spread}
use Rattle.test_heap.proofs.blocks.the_search_goes_round_and_ends.Goals as goal

pub take_three-requires : goal.take_three-requires
take_three-requires g c = record {
  pool = flat_spread _ _ 2 c.new-flat.ensures (omega arith)
      c.in_ok-words.ensures.words c.in_ok-words.ensures.pool;
}
