use Rattle.std.proofs.Common.{◌∙◌, arith}
use Rattle.vac_tasks.proofs.HeldReport.{step_at}
use Rattle.vac_tasks.proofs.ItemWalk.{item_start, item_ahead, item_node, items_fit, item_step, item_none, item_all}
use Rattle.vac_tasks.proofs.item_report.sum_items.Goals as goal

pub loop-init : goal.loop-init
loop-init g c = record {
  origin = c.in_ok-walk.ensures.origin;
  walk = item_start _ _ c.args.kind _ _ c.root_of-root.ensures c.in_ok-walk.ensures.answer;
}

pub next-requires : goal.next-requires
next-requires g c = record { walk = item_ahead _ _ _ _ _ _ c.requires c.loop.invariant.walk }

pub returns-in-None-clause-answer : goal.returns-in-None-clause-answer
returns-in-None-clause-answer g c =
    item_none _ _ _ _ _ _ _ _ c.requires c.loop.invariant.walk
    (step_at _ _ _ _ _ _ c.in-None.is c.in_ok-next.ensures.answer) (g.met.M.TxRead.seen c.next.new.memory)

pub sums_of_item-requires : goal.sums_of_item-requires
sums_of_item-requires g c = item_node _ _ _ _ _ _ _ _ _ c.requires c.loop.invariant.walk
    (step_at _ _ _ _ _ _ c.in-Some.is c.in_ok-next.ensures.answer)

pub plus-sums-requires : goal.plus-sums-requires
plus-sums-requires g c =
    items_fit _ _ _ _ _ _ _ _ _ _ _ c.requires c.loop.invariant.walk
    (step_at _ _ _ _ _ _ c.in-Some.is c.in_ok-next.ensures.answer) c.in_ok-sums_of_item-in-Some.ensures.answer
    (g.met.M.TxRead.seen c.sums_of_item.new.memory)

pub loop-preserved : goal.loop-preserved
loop-preserved g c = record {
  origin = c.in_ok-sums_of_item-in-Some.ensures.origin ∙ (c.in_ok-next.ensures.origin ∙ c.loop.invariant.origin);
  walk = item_step _ _ _ _ _ _ _ _ _ _ _ _ c.plus-sums.ensures c.loop.invariant.walk
      (step_at _ _ _ _ _ _ c.in-Some.is c.in_ok-next.ensures.answer) c.in_ok-sums_of_item-in-Some.ensures.answer;
}

pub returns-clause-answer : goal.returns-clause-answer
returns-clause-answer g c = item_all _ _ _ _ _ _ (omega (arith, c.loop-test.false)) c.requires c.loop.invariant.walk
    (g.met.M.TxRead.seen c.loop.memory)
