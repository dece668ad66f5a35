use Rattle.vac_tasks.proofs.Held.{held_on, read_both, item_at_on, customer_at_on, item_found_at, customer_found_at}
use Rattle.vac_tasks.proofs.Held.{ran_after}
use Rattle.vac_tasks.proofs.Refusals.{cancel_needs, lacks_customer, lacks_item}
use Rattle.vac_tasks.proofs.Owners.{list_held, sought_only, found_after, spot_held}
use Rattle.vac_tasks.proofs.Reserving.{cancelled_found}
use Rattle.vac_tasks.proofs.Small.{cancel_small}
use Rattle.vac_tasks.proofs.bookings.cancel.Goals as goal

pub returns-in_default-clause-answer : goal.returns-in_default-clause-answer
returns-in_default-clause-answer g c = lacks_customer _ _ _ _ _ _ (cancel_needs _ _ _) c.in_ok-owner.ensures.reads
    (rw c.in_default.is at c.in_ok-owner.ensures.answer)

pub find_item-requires : goal.find_item-requires
find_item-requires g c = held_on _ _ c.in_ok-owner.ensures.reads c.requires.state

pub returns-in_default-2-clause-answer : goal.returns-in_default-2-clause-answer
returns-in_default-2-clause-answer g c =
    lacks_item _ _ _ _ _ _ _ _ (cancel_needs _ _ _) c.in_ok-owner.ensures.reads
    (rw c.in-Some.is at c.in_ok-owner.ensures.answer)
    c.in_ok-item.ensures.reads (rw c.in_default-2.is at c.in_ok-item.ensures.answer)

pub spot_of-requires-clause-list : goal.spot_of-requires-clause-list
spot_of-requires-clause-list g c =
    list_held _ _ _ (held_on _ _ (read_both _ _ _ c.in_ok-owner.ensures.reads c.in_ok-item.ensures.reads)
    c.requires.state) (customer_found_at _ _ _ (customer_at_on _ _ _ _ c.in_ok-item.ensures.reads
    (rw c.in-Some.is at c.in_ok-owner.ensures.answer)))

pub cancel_at-requires-clause-ready : goal.cancel_at-requires-clause-ready
cancel_at-requires-clause-ready g c = record {
  state = held_on _ _ (found_after _ _ _ _ _ _ _ c.in_ok-owner.ensures.reads c.in_ok-item.ensures.reads
      c.in_ok-spot.ensures.answer) c.requires.state;
  customer = customer_found_at _ _ _ (customer_at_on _ _ _ _ (read_both _ _ _ c.in_ok-item.ensures.reads
      (sought_only _ _ _ _ _ c.in_ok-spot.ensures.answer)) (rw c.in-Some.is at c.in_ok-owner.ensures.answer));
  item = item_found_at _ _ _ _ (item_at_on _ _ _ _ _ (sought_only _ _ _ _ _ c.in_ok-spot.ensures.answer)
      (rw c.in-Some-2.is at c.in_ok-item.ensures.answer));
  range = c.requires.range;
}

pub cancel_at-requires-clause-spot : goal.cancel_at-requires-clause-spot
cancel_at-requires-clause-spot g c =
    spot_held _ _ _ _ (c.args.place.0, c.args.place.1) _ (customer_found_at _ _ _
    (customer_at_on _ _ _ _ c.in_ok-item.ensures.reads (rw c.in-Some.is at c.in_ok-owner.ensures.answer)))
    c.in_ok-spot.ensures.answer

pub returns-clause-answer : goal.returns-clause-answer
returns-clause-answer g c =
    rw c.reply_of.ensures (ran_after _ _ _ _ _ (read_both _ _ _ c.in_ok-owner.ensures.reads
    c.in_ok-item.ensures.reads) (cancelled_found _ _ _ _ _ _ _ _ _ _ c.requires.range
    (customer_at_on _ _ _ _ c.in_ok-item.ensures.reads (rw c.in-Some.is at c.in_ok-owner.ensures.answer))
    (rw c.in-Some-2.is at c.in_ok-item.ensures.answer) (cancel_small c.args.customer c.args.place.0 c.args.place.1
    c.requires.range) c.in_ok-spot.ensures.answer c.in_ok-refused.ensures.answer).ran)
