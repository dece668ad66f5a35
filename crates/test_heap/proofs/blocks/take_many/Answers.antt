use Rattle.std.proofs.Common.{◌∙◌}
use Rattle.tx_alloc.proofs.After.{has_drew}
use Rattle.test_heap.proofs.blocks.take_many.Goals as goal

pub loop-preserved : goal.loop-preserved
loop-preserved g c = record {
  origin = c.in_ok-last.ensures.origin ∙ c.loop.invariant.origin;
  pool = has_drew c.in_ok-last.last _ _ _ c.loop.invariant.pool c.in_ok-last.ensures.answer;
}
