use Rattle.test_stm.proofs.Pools.{spread_fits}
use Rattle.test_stm.proofs.heaps.heap_region.Goals as goal

pub new-requires : goal.new-requires
new-requires c = spread_fits _ _ c.as_slice.ensures.value c.in_ok-words.ensures.words c.in_ok-words.ensures.pool
