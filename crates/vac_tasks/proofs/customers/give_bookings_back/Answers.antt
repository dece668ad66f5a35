use Rattle.std.proofs.Common.{◌+◌, ◌-◌, refl, ◌∙◌, arith}
use Rattle.vac_tasks.proofs.Held.{held_on, customer_is_on}
use Rattle.vac_tasks.proofs.Leaving.{all_left, bookings_held, none_first, starts_at, first_found_at, given_read}
use Rattle.vac_tasks.proofs.Leaving.{given_one}
use Rattle.vac_tasks.proofs.Parting.{given_holds, given_seat}
use Rattle.vac_tasks.proofs.customers.give_bookings_back.Goals as goal

pub loop-init : goal.loop-init
loop-init g c = record {
  origin = refl;
  state = c.requires.state;
  customer = c.requires.customer;
  given = all_left _ _ _ c.requires.customer.some;
}

pub first-requires : goal.first-requires
first-requires g c = record {
  list = bookings_held _ _ _ _ c.word-head.ensures
      c.loop.invariant.state c.loop.invariant.customer;
}

pub returns-in_default-clause-answer : goal.returns-in_default-clause-answer
returns-in_default-clause-answer g c =
    none_first _ _ _ _ _ _ _ c.word-head.ensures c.loop.invariant.customer.some
    (rw c.in_default.is at c.in_ok-booking.ensures.answer) c.loop.invariant.given

pub cancel_first-requires : goal.cancel_first-requires
cancel_first-requires g c =
    let f = c.in_ok-booking.ensures.answer in
    record {
      state = held_on _ _ (record { kept = f.kept; writes = f.writes }) c.loop.invariant.state;
      customer = customer_is_on _ _ _ _ (record { kept = f.kept; writes = f.writes }) c.loop.invariant.customer;
      first = starts_at _ _ _ _ _ _ c.word-head.ensures (held_on _ _ (record {
        kept = f.kept;
        writes = f.writes;
      }) c.loop.invariant.state)
          (customer_is_on _ _ _ _ (record { kept = f.kept; writes = f.writes }) c.loop.invariant.customer)
          (rw c.in-Some.is at c.in_ok-booking.ensures.answer);
      range = c.requires.range;
    }

pub loop-preserved : goal.loop-preserved
loop-preserved g c =
    let f = c.in_ok-booking.ensures.answer in
    let given = given_one _ _ _ _ _ _ _ (262144 - (c.loop.counter + 1)) (omega arith)
    (given_read _ _ _ _ _ _ (record { kept = f.kept; writes = f.writes }) c.loop.invariant.given)
    (first_found_at _ _ _ _ _ _ c.word-head.ensures c.requires.customer.some
    (rw c.in-Some.is at c.in_ok-booking.ensures.answer))
    c.in_ok-cancel_first.ensures.answer in
    record {
      origin = c.in_ok-cancel_first.ensures.origin ∙ (c.in_ok-booking.ensures.origin ∙ c.loop.invariant.origin);
      state = given_holds _ _ _ _ _ c.requires.state c.requires.customer given;
      customer = given_seat _ _ _ _ _ c.requires.state c.requires.customer given;
      given = given;
    }
