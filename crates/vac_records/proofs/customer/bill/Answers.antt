use Rattle.std.proofs.Common.{◌∙◌, arith}
use Rattle.vac_records.proofs.Billing.{billing_start, billing_step, block_node, sum_fits, in_a_list, billed_none}
use Rattle.vac_records.proofs.Billing.{billed_all, at_next}
use Rattle.vac_records.proofs.customer.bill.Goals as goal

pub loop-init : goal.loop-init
loop-init g c = record {
  origin = c.in_ok-next.ensures.origin;
  billing = billing_start _ _ _ _ _ c.word.ensures c.in_ok-next.ensures.answer;
}

pub returns-in-None-clause-origin : goal.returns-in-None-clause-origin
returns-in-None-clause-origin g c = c.loop.invariant.origin

pub returns-in-None-clause-answer : goal.returns-in-None-clause-answer
returns-in-None-clause-answer g c = billed_none _ _ _ _ _ (at_next _ _ _ _ _ _ _ c.in-None.is c.loop.invariant.billing)

pub sum_at-requires : goal.sum_at-requires
sum_at-requires g c = block_node _ _ _ _ _ c.in-Some.block c.requires
    (at_next _ _ _ _ _ _ _ c.in-Some.is c.loop.invariant.billing)

pub returns-in_err-total-in-Some-clause-origin : goal.returns-in_err-total-in-Some-clause-origin
returns-in_err-total-in-Some-clause-origin g c = c.sum_at.ensures.origin ∙ c.loop.invariant.origin

pub overflow_add-total : goal.overflow_add-total
overflow_add-total g c =
    let l = sum_fits _ _ _ _ _ _ _ c.in-Some.block c.requires
    (at_next _ _ _ _ _ _ _ c.in-Some.is c.loop.invariant.billing) c.in_ok-total-in-Some.ensures.answer
    (g.met.M.TxRead.seen c.sum_at.new.memory) in
    omega arith

pub next-requires : goal.next-requires
next-requires g c = record {
  booking = in_a_list _ _ _ _ _ _ _ c.in-Some.block c.requires
      (at_next _ _ _ _ _ _ _ c.in-Some.is c.loop.invariant.billing) c.in_ok-total-in-Some.ensures.answer;
}

pub returns-in_err-next-in-Some-clause-origin : goal.returns-in_err-next-in-Some-clause-origin
returns-in_err-next-in-Some-clause-origin g c = c.next.ensures.origin ∙
    (c.in_ok-total-in-Some.ensures.origin ∙ c.loop.invariant.origin)

pub loop-preserved : goal.loop-preserved
loop-preserved g c = record {
  origin = c.in_ok-next-in-Some.ensures.origin ∙ (c.in_ok-total-in-Some.ensures.origin ∙ c.loop.invariant.origin);
  billing = billing_step _ _ _ _ _ _ _ _ c.in-Some.block _ c.requires
      (at_next _ _ _ _ _ _ _ c.in-Some.is c.loop.invariant.billing) c.in_ok-total-in-Some.ensures.answer
      c.in_ok-next-in-Some.ensures.answer;
}

pub returns-clause-origin : goal.returns-clause-origin
returns-clause-origin g c = c.loop.invariant.origin

pub returns-clause-answer : goal.returns-clause-answer
returns-clause-answer g c = billed_all _ _ _ _ _ _ (omega (arith, c.loop-test.false)) c.loop.invariant.billing
