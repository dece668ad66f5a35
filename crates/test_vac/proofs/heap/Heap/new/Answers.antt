use Rattle.test_vac.proofs.Heaps.{spread_holds}
use Rattle.test_vac.proofs.Heaps.{holds_empty}
use Rattle.test_vac.proofs.heap.Heap.new.Goals as goal

pub invariant_of-result : goal.invariant_of-result
invariant_of-result c = rw c.new-memory.ensures (spread_holds _ _ c.requires.most c.in_ok-words.ensures.words
    c.in_ok-words.ensures.pool)

pub returns : goal.returns
returns c = holds_empty _ _ _ c.requires.most c.in_ok-words.ensures.words c.in_ok-words.ensures.pool
    c.new-memory.ensures
