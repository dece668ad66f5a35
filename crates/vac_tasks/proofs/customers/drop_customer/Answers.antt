use Rattle.vac_tasks.proofs.Held.{held_on, customer_found_at, ran_after}
use Rattle.vac_tasks.proofs.Billing.{ran_found}
use Rattle.vac_tasks.proofs.Parting.{nobody}
use Rattle.vac_tasks.proofs.customers.drop_customer.Goals as goal

pub returns-in_default-clause-answer : goal.returns-in_default-clause-answer
returns-in_default-clause-answer g c = nobody _ _ _ c.in_ok-customer.ensures.reads
    (rw c.in_default.is at c.in_ok-customer.ensures.answer)

pub drop_customer_at-requires-clause-state : goal.drop_customer_at-requires-clause-state
drop_customer_at-requires-clause-state g c = held_on _ _ c.in_ok-customer.ensures.reads c.requires.state

pub drop_customer_at-requires-clause-customer : goal.drop_customer_at-requires-clause-customer
drop_customer_at-requires-clause-customer g c = customer_found_at _ _ _
    (rw c.in-Some.is at c.in_ok-customer.ensures.answer)

pub returns-clause-answer : goal.returns-clause-answer
returns-clause-answer g c =
    ran_after _ _ _ _ _ c.in_ok-customer.ensures.reads
    (ran_found _ _ _ _ _ _ (rw c.in-Some.is at c.in_ok-customer.ensures.answer)
    c.in_ok-drop_customer_at.ensures.answer)
