use Rattle.vac_tasks.proofs.Held.{held_on, customer_missed, ran_after}
use Rattle.vac_tasks.proofs.Billing.{ran_missing}
use Rattle.vac_tasks.proofs.Joining.{exists_already}
use Rattle.vac_tasks.proofs.customers.new_customer.Goals as goal

pub returns-in-Some-clause-answer : goal.returns-in-Some-clause-answer
returns-in-Some-clause-answer g c = exists_already _ _ _ _ c.in_ok-find_customer.ensures.reads
    (rw c.in-Some.is at c.in_ok-find_customer.ensures.answer)

pub add_customer-requires-clause-state : goal.add_customer-requires-clause-state
add_customer-requires-clause-state g c = held_on _ _ c.in_ok-find_customer.ensures.reads c.requires.state

pub add_customer-requires-clause-missing : goal.add_customer-requires-clause-missing
add_customer-requires-clause-missing g c = customer_missed _ _ (rw c.in-None.is at c.in_ok-find_customer.ensures.answer)

pub returns-in-None-added-clause-answer : goal.returns-in-None-added-clause-answer
returns-in-None-added-clause-answer g c =
    ran_after _ _ _ _ _ c.in_ok-find_customer.ensures.reads
    (ran_missing _ _ _ _ _ (rw c.in-None.is at c.in_ok-find_customer.ensures.answer)
    (rw c.in-None-added.is at c.in_ok-added-in-None.ensures.answer))

pub returns-in-Some-added-clause-answer : goal.returns-in-Some-added-clause-answer
returns-in-Some-added-clause-answer g c =
    ran_after _ _ _ _ _ c.in_ok-find_customer.ensures.reads
    (ran_missing _ _ _ _ _ (rw c.in-None.is at c.in_ok-find_customer.ensures.answer)
    (rw c.in-Some-added.is at c.in_ok-added-in-None.ensures.answer))
