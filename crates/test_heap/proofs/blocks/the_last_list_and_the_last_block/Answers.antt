use Rattle.std.proofs.Common.{arith}
use Rattle.tx_alloc.proofs.After.{flat_spread}
use Rattle.test_heap.proofs.blocks.the_last_list_and_the_last_block.Goals as goal

pub take_of_each-requires-clause-pool : goal.take_of_each-requires-clause-pool
take_of_each-requires-clause-pool g c =
    flat_spread _ _ 8 c.new-eight.ensures (omega arith) c.in_ok-spread_words.ensures.words
    c.in_ok-spread_words.ensures.pool

pub take_many-requires-3 : goal.take_many-requires-3
take_many-requires-3 g c = record {
  pool = flat_spread _ _ 1 c.new-one.ensures (omega arith) c.in_ok-spread_words-2.ensures.words
      c.in_ok-spread_words-2.ensures.pool;
}
