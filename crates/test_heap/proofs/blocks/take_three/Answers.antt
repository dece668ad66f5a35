use Rattle.tx_alloc.proofs.After.{has_took}
use Rattle.test_heap.proofs.blocks.take_three.Goals as goal

pub take-requires-2 : goal.take-requires-2
take-requires-2 g c = record { pool = has_took c.in_ok-one.one _ _ _ c.requires.pool c.in_ok-one.ensures.answer }

pub take-requires-3 : goal.take-requires-3
take-requires-3 g c = record {
  pool = has_took c.in_ok-two.two _ _ _ (has_took c.in_ok-one.one _ _ _ c.requires.pool
      c.in_ok-one.ensures.answer) c.in_ok-two.ensures.answer;
}

pub returns-clause-pool : goal.returns-clause-pool
returns-clause-pool g c = has_took c.in_ok-three.three _ _ _
    (has_took c.in_ok-two.two _ _ _ (has_took c.in_ok-one.one _ _ _ c.requires.pool c.in_ok-one.ensures.answer)
    c.in_ok-two.ensures.answer) c.in_ok-three.ensures.answer
