use Rattle.test_stm.specs.Laws.{IsHeapOfTen}
use Rattle.test_stm.proofs.Begun.{held_begun}
use Rattle.test_stm.proofs.Pools.{heap_pool}
use Rattle.test_stm.proofs.heaps.move_two_in_an_attempt.Goals as goal

pub move_two-requires : goal.move_two-requires
move_two-requires c = record {
  pool = heap_pool _ (held_begun IsHeapOfTen 96 _ _ _ _ _ c.begin-attempt.ensures.empty.2 c.begin-attempt.ensures.region
      c.requires.size c.begin-attempt.ensures.empty.1);
}
