use Rattle.std.proofs.Common.{arith}
use Rattle.tx_alloc.proofs.After.{flat_spread}
use Rattle.test_stm.proofs.heaps.blocks_of_plain_memory_and_of_a_region.Goals as goal

pub move_two-requires : goal.move_two-requires
move_two-requires g c = record {
  pool = flat_spread _ _ 10 c.new-flat.ensures (omega arith)
      c.in_ok-words.ensures.words c.in_ok-words.ensures.pool;
}
