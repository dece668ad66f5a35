use Rattle.std.proofs.Common.{◌∙◌}
use Rattle.tx_alloc.proofs.After.{has_drew}
use Rattle.test_heap.proofs.blocks.take_of_each.Goals as goal

pub loop-list-preserved : goal.loop-list-preserved
loop-list-preserved g c = record {
  origin = c.in_ok-take_refilling.ensures.origin ∙ c.loop-list.invariant.origin;
  pool = has_drew c.in_ok-take_refilling.field-0 _ _ _ c.loop-list.invariant.pool c.in_ok-take_refilling.ensures.answer;
}
