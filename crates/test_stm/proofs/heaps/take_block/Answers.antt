use Rattle.test_stm.proofs.Pools.{heap_pool, heap_took}
use Rattle.test_stm.proofs.heaps.take_block.Goals as goal

pub take-requires : goal.take-requires
take-requires g c = record { pool = heap_pool _ c.requires.heap }

pub returns-clause-heap : goal.returns-clause-heap
returns-clause-heap g c = heap_took c.in_ok-taken.taken _ _ _ c.in_ok-taken.ensures.answer
