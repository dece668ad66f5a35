use Rattle.test_stm.specs.Laws.{IsHeapOfTen}
use Rattle.test_stm.proofs.Begun.{held_begun}
use Rattle.test_stm.proofs.Pools.{heap_lawful}
use Rattle.test_stm.proofs.heaps.take_and_commit.Goals as goal

pub take_block-taken-requires : goal.take_block-taken-requires
take_block-taken-requires c = record {
  heap = held_begun IsHeapOfTen
      96 _ _ _ _ _ c.begin-attempt.ensures.empty.2 c.begin-attempt.ensures.region c.requires.size
      c.begin-attempt.ensures.empty.1;
}

pub commit-requires-clause-lawful : goal.commit-requires-clause-lawful
commit-requires-clause-lawful c = λ _.
    heap_lawful _ _ _ _ _ _ _ _ _ _ _ _ c.begin-attempt.ensures.empty.2 c.begin-attempt.ensures.empty.1
    c.take_block-taken.ensures.origin c.in-Ok.ensures.heap
