use Rattle.std.proofs.Common.{◌∙◌, arith}
use Rattle.vac_tasks.proofs.BookingWalk.{booking_step, units_fit, sums_fit, in_a_list, walk_at}
use Rattle.vac_tasks.proofs.customer_report.sums_of_customer.Goals as goal

pub overflow_add-units : goal.overflow_add-units
overflow_add-units g c =
    let l = units_fit _ _ _ _ _ _ _ _ c.in-Some.block c.requires
    (walk_at _ _ _ _ _ _ _ _ c.in-Some.is c.loop.invariant.walk) c.in_ok-units-in-Some.ensures.answer
    (g.met.M.TxRead.seen c.units_at.new.memory) in
    omega arith

pub overflow_add-billed : goal.overflow_add-billed
overflow_add-billed g c =
    let l = sums_fit _ _ _ _ _ _ _ _ _ _ c.in-Some.block c.requires
    (walk_at _ _ _ _ _ _ _ _ c.in-Some.is c.loop.invariant.walk) c.in_ok-units-in-Some.ensures.answer
    c.in_ok-billed-in-Some.ensures.answer
    (g.met.M.TxRead.seen c.sum_at.new.memory) in
    omega arith

pub next-requires : goal.next-requires
next-requires g c = record {
  booking = in_a_list _ _ _ _ _ _ _ _ _ _ c.in-Some.block c.requires
      (walk_at _ _ _ _ _ _ _ _ c.in-Some.is c.loop.invariant.walk) c.in_ok-units-in-Some.ensures.answer
      c.in_ok-billed-in-Some.ensures.answer;
}

pub loop-preserved : goal.loop-preserved
loop-preserved g c = record {
  origin = c.in_ok-next-in-Some.ensures.origin ∙ (c.in_ok-billed-in-Some.ensures.origin ∙
      (c.in_ok-units-in-Some.ensures.origin ∙ c.loop.invariant.origin));
  walk = booking_step _ _ _ _ _ _ _ _ _ _ _ c.in-Some.block _ c.requires
      (walk_at _ _ _ _ _ _ _ _ c.in-Some.is c.loop.invariant.walk) c.in_ok-units-in-Some.ensures.answer
      c.in_ok-billed-in-Some.ensures.answer c.in_ok-next-in-Some.ensures.answer;
}
