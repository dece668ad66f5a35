use Rattle.std.proofs.Common.{◌∙◌, arith}
use Rattle.vac_tasks.proofs.HeldReport.{step_at}
use Rattle.vac_tasks.proofs.CustomerWalk.{customer_start, customer_ahead, can_count, customers_fit, customer_step}
use Rattle.vac_tasks.proofs.CustomerWalk.{customer_none, customer_all}
use Rattle.vac_tasks.proofs.customer_report.sum_customers.Goals as goal

pub loop-init : goal.loop-init
loop-init g c = record {
  origin = c.in_ok-walk.ensures.origin;
  walk = customer_start _ _ _ c.in_ok-walk.ensures.answer;
}

pub next-requires : goal.next-requires
next-requires g c = record { walk = customer_ahead _ _ _ _ _ c.requires c.loop.invariant.walk }

pub returns-in-None-clause-answer : goal.returns-in-None-clause-answer
returns-in-None-clause-answer g c = customer_none _ _ _ _ _ _ _ c.loop.invariant.walk
    (step_at _ _ _ _ _ _ c.in-None.is c.in_ok-next.ensures.answer)

pub sums_of_customer-requires : goal.sums_of_customer-requires
sums_of_customer-requires g c =
    can_count _ _ _ _ _ _ _ _ c.requires c.loop.invariant.walk
    (step_at _ _ _ _ _ _ c.in-Some.is c.in_ok-next.ensures.answer)

pub plus-sums-requires : goal.plus-sums-requires
plus-sums-requires g c =
    customers_fit _ _ _ _ _ _ _ _ _ _ c.requires c.loop.invariant.walk
    (step_at _ _ _ _ _ _ c.in-Some.is c.in_ok-next.ensures.answer)
    c.in_ok-sums_of_customer-in-Some.ensures.answer
    (g.met.M.TxRead.seen c.sums_of_customer.new.memory)

pub loop-preserved : goal.loop-preserved
loop-preserved g c = record {
  origin = c.in_ok-sums_of_customer-in-Some.ensures.origin ∙
      (c.in_ok-next.ensures.origin ∙ c.loop.invariant.origin);
  walk = customer_step _ _ _ _ _ _ _ _ _ _ _ c.plus-sums.ensures c.loop.invariant.walk
      (step_at _ _ _ _ _ _ c.in-Some.is c.in_ok-next.ensures.answer)
      c.in_ok-sums_of_customer-in-Some.ensures.answer;
}

pub returns-clause-answer : goal.returns-clause-answer
returns-clause-answer g c = customer_all _ _ _ _ _ (omega (arith, c.loop-test.false)) c.loop.invariant.walk
