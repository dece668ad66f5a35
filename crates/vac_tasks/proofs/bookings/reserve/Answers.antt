use Rattle.vac_tasks.proofs.Held.{held_on, read_both, customer_at_on, item_found_at, customer_found_at, ran_after}
use Rattle.vac_tasks.proofs.Refusals.{reserve_needs, lacks_customer, lacks_item}
use Rattle.vac_tasks.proofs.Reserving.{served_found}
use Rattle.vac_tasks.proofs.Small.{reserve_small}
use Rattle.vac_tasks.proofs.bookings.reserve.Goals as goal

pub returns-in_default-clause-answer : goal.returns-in_default-clause-answer
returns-in_default-clause-answer g c = lacks_customer _ _ _ _ _ _ (reserve_needs _ _ _ _) c.in_ok-owner.ensures.reads
    (rw c.in_default.is at c.in_ok-owner.ensures.answer)

pub find_item-requires : goal.find_item-requires
find_item-requires g c = held_on _ _ c.in_ok-owner.ensures.reads c.requires.state

pub returns-in_default-2-clause-answer : goal.returns-in_default-2-clause-answer
returns-in_default-2-clause-answer g c =
    lacks_item _ _ _ _ _ _ _ _ (reserve_needs _ _ _ _) c.in_ok-owner.ensures.reads
    (rw c.in-Some.is at c.in_ok-owner.ensures.answer)
    c.in_ok-item.ensures.reads (rw c.in_default-2.is at c.in_ok-item.ensures.answer)

pub reserve_at-requires-clause-state : goal.reserve_at-requires-clause-state
reserve_at-requires-clause-state g c = held_on _ _ (read_both _ _ _ c.in_ok-owner.ensures.reads
    c.in_ok-item.ensures.reads) c.requires.state

pub reserve_at-requires-clause-customer : goal.reserve_at-requires-clause-customer
reserve_at-requires-clause-customer g c = customer_found_at _ _ _
    (customer_at_on _ _ _ _ c.in_ok-item.ensures.reads (rw c.in-Some.is at c.in_ok-owner.ensures.answer))

pub reserve_at-requires-clause-item : goal.reserve_at-requires-clause-item
reserve_at-requires-clause-item g c = item_found_at _ _ _ _ (rw c.in-Some-2.is at c.in_ok-item.ensures.answer)

pub returns-clause-answer : goal.returns-clause-answer
returns-clause-answer g c =
    rw c.reply_of.ensures (ran_after _ _ _ _ _ (read_both _ _ _ c.in_ok-owner.ensures.reads
    c.in_ok-item.ensures.reads) (served_found _ _ _ _ _ _ _ _ _ c.requires.range
    (customer_at_on _ _ _ _ c.in_ok-item.ensures.reads (rw c.in-Some.is at c.in_ok-owner.ensures.answer))
    (rw c.in-Some-2.is at c.in_ok-item.ensures.answer) (reserve_small c.args.customer c.args.place.0 c.args.place.1
    c.args.num
    c.requires.range).0 c.in_ok-refused.ensures.answer).ran)
