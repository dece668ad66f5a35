use Rattle.vac_tasks.proofs.Held.{held_on, customer_at_on, customer_found_at}
use Rattle.vac_tasks.proofs.Billing.{ran_found, asked_found}
use Rattle.vac_tasks.proofs.Parts.{left_none, left, asked_only}
use Rattle.vac_tasks.proofs.leave.leave.Goals as goal

pub returns-in_default-clause-answer : goal.returns-in_default-clause-answer
returns-in_default-clause-answer g c =
    left_none _ _ _ c.in_ok-owner.ensures.reads (rw c.in_default.is at c.in_ok-owner.ensures.answer)

pub bill_at-requires-clause-state : goal.bill_at-requires-clause-state
bill_at-requires-clause-state g c = held_on _ _ c.in_ok-owner.ensures.reads c.requires.state

pub bill_at-requires-clause-customer : goal.bill_at-requires-clause-customer
bill_at-requires-clause-customer g c = customer_found_at _ _ _ (rw c.in-Some.is at c.in_ok-owner.ensures.answer)

pub drop_customer_at-requires-clause-state : goal.drop_customer_at-requires-clause-state
drop_customer_at-requires-clause-state g c =
    held_on _ _ (asked_only _ _ _ _ (asked_found _ _ _ _ _ _
    (rw c.in-Some.is at c.in_ok-owner.ensures.answer) c.in_ok-bill.ensures.answer c.in_ok-bill.ensures.writes))
    (held_on _ _ c.in_ok-owner.ensures.reads c.requires.state)

pub drop_customer_at-requires-clause-customer : goal.drop_customer_at-requires-clause-customer
drop_customer_at-requires-clause-customer g c =
    customer_found_at _ _ _ (customer_at_on _ _ _ _ (asked_only _ _ _ _
    (asked_found _ _ _ _ _ _ (rw c.in-Some.is at c.in_ok-owner.ensures.answer) c.in_ok-bill.ensures.answer
    c.in_ok-bill.ensures.writes)) (rw c.in-Some.is at c.in_ok-owner.ensures.answer))

pub returns-clause-answer : goal.returns-clause-answer
returns-clause-answer g c =
    let at = rw c.in-Some.is at c.in_ok-owner.ensures.answer in
    left _ _ _ _ _ _ c.in_ok-owner.ensures.reads (asked_found _ _ _ _ _ _
    (rw c.in-Some.is at c.in_ok-owner.ensures.answer) c.in_ok-bill.ensures.answer c.in_ok-bill.ensures.writes)
    (ran_found _ _ _ _ _ _ (customer_at_on _ _ _ _ (asked_only _ _ _ _
    (asked_found _ _ _ _ _ _ (rw c.in-Some.is at c.in_ok-owner.ensures.answer) c.in_ok-bill.ensures.answer
    c.in_ok-bill.ensures.writes)) at) c.in_ok-drop_customer_at.ensures.answer)
