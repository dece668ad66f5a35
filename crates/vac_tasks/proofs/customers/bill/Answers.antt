use Rattle.vac_tasks.proofs.Held.{held_on, customer_found_at, asked_after}
use Rattle.vac_tasks.proofs.Billing.{asked_found, bill_missing}
use Rattle.vac_tasks.proofs.customers.bill.Goals as goal

pub bill_at-requires-clause-state : goal.bill_at-requires-clause-state
bill_at-requires-clause-state g c = held_on _ _ c.in_ok-find_customer.ensures.reads c.requires

pub bill_at-requires-clause-customer : goal.bill_at-requires-clause-customer
bill_at-requires-clause-customer g c = customer_found_at _ _ _ (rw c.in-Some.is at c.in_ok-find_customer.ensures.answer)

pub returns-in-None-clause-answer : goal.returns-in-None-clause-answer
returns-in-None-clause-answer g c = bill_missing _ _ _ c.in_ok-find_customer.ensures.reads
    (rw c.in-None.is at c.in_ok-find_customer.ensures.answer)

pub returns-in_ok-bill-in-Some-clause-answer : goal.returns-in_ok-bill-in-Some-clause-answer
returns-in_ok-bill-in-Some-clause-answer g c =
    asked_after _ _ _ _ _ c.in_ok-find_customer.ensures.reads
    (asked_found _ _ _ _ _ _ (rw c.in-Some.is at c.in_ok-find_customer.ensures.answer)
    c.in_ok-bill-in-Some.ensures.answer c.in_ok-bill-in-Some.ensures.writes)
