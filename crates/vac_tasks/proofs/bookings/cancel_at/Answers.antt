use Rattle.vac_tasks.proofs.Cancelling.{none_booked, can_cancel, used_now, cancel_done}
use Rattle.vac_tasks.proofs.Small.{cancel_small}
use Rattle.vac_tasks.proofs.bookings.cancel_at.Goals as goal

pub cancel-requires-clause-units : goal.cancel-requires-clause-units
cancel-requires-clause-units g c =
    can_cancel _ _ _ _ _ _ _ c.args.spot c.in-Some.taken.0 c.in-Some.taken.1
    (rw c.in-Some.is at c.in_ok-taken.ensures.answer)
    c.requires.ready.state c.requires.ready.customer c.requires.ready.item c.requires.spot
    (cancel_small c.args.who.customer c.args.what.kind c.args.what.id c.requires.ready.range)

pub give-requires : goal.give-requires
give-requires g c = record {
  used = (used_now _ _ _ _ _ _ _ c.args.spot c.in-Some.taken.0 c.in-Some.taken.1
      (rw c.in-Some.is at c.in_ok-taken.ensures.answer)
      c.requires.ready.state c.requires.ready.customer c.requires.ready.item c.requires.spot
      (cancel_small c.args.who.customer c.args.what.kind c.args.what.id c.requires.ready.range)
      _ c.in_ok-cancel.ensures.answer);
}

pub returns-in_default-clause-answer : goal.returns-in_default-clause-answer
returns-in_default-clause-answer g c = none_booked _ _ _ _ _ _ _ c.args.spot
    (rw c.in_default.is at c.in_ok-taken.ensures.answer)

pub returns-clause-answer : goal.returns-clause-answer
returns-clause-answer g c = cancel_done _ _ _ _ _ _ _ c.args.spot c.in-Some.taken.0 c.in-Some.taken.1
    (rw c.in-Some.is at c.in_ok-taken.ensures.answer) _ _ _ c.in_ok-give.ensures.list c.in_ok-cancel.ensures.answer
    c.in_ok-give.ensures.answer
