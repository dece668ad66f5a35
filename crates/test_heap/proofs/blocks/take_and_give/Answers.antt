use Rattle.tx_alloc.proofs.After.{used_taken, has_given, took_block}
use Rattle.test_heap.proofs.blocks.take_and_give.Goals as goal

pub give-requires : goal.give-requires
give-requires g c = record {
  used = used_taken _ _ _ _ c.requires.pool (took_block c.in_ok-taken.taken c.in-Some.block _
      _ _ c.in-Some.is c.in_ok-taken.ensures.answer);
}

pub returns-in_ok-give-in-Some-clause-pool : goal.returns-in_ok-give-in-Some-clause-pool
returns-in_ok-give-in-Some-clause-pool g c = has_given _ _ _ _
    (used_taken _ _ _ _ c.requires.pool (took_block c.in_ok-taken.taken c.in-Some.block _ _ _ c.in-Some.is
    c.in_ok-taken.ensures.answer)) c.in_ok-give-in-Some.ensures.answer
