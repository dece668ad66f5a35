use Rattle.std.proofs.Common.{arith}
use Rattle.tx_alloc.proofs.After.{flat_spread}
use Rattle.test_heap.proofs.blocks.a_dry_list_gets_what_is_behind_the_block.Goals as goal

pub take_many-requires : goal.take_many-requires
take_many-requires g c = record {
  pool = flat_spread _ _ 24 c.new-flat.ensures (omega arith)
      c.in_ok-words.ensures.words c.in_ok-words.ensures.pool;
}
