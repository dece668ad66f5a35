use Rattle.vac_tasks.proofs.Held.{held_on, customer_missed}
use Rattle.vac_tasks.proofs.Booking.{joined_there, joined_new, joined_full}
use Rattle.vac_tasks.proofs.trip.join.Goals as goal

pub returns-in-Some-clause-answer : goal.returns-in-Some-clause-answer
returns-in-Some-clause-answer g c = joined_there _ _ _ _ c.in_ok-block.ensures.reads
    (rw c.in-Some.is at c.in_ok-block.ensures.answer)

pub add_customer-requires-clause-state : goal.add_customer-requires-clause-state
add_customer-requires-clause-state g c = held_on _ _ c.in_ok-block.ensures.reads c.requires.state

pub add_customer-requires-clause-missing : goal.add_customer-requires-clause-missing
add_customer-requires-clause-missing g c = customer_missed _ _ (rw c.in_default.is at c.in_ok-block.ensures.answer)

pub returns-in-Some-2-clause-answer : goal.returns-in-Some-2-clause-answer
returns-in-Some-2-clause-answer g c =
    let added = c.in_ok-block-2.ensures in
    joined_new _ _ _ _ _ c.in_ok-block.ensures.reads (rw c.in_default.is at c.in_ok-block.ensures.answer)
    (rw c.in-Some-2.is at added.answer) (rw c.in-Some-2.is at added.block) added.items

pub returns-in-None-clause-answer : goal.returns-in-None-clause-answer
returns-in-None-clause-answer g c =
    let added = c.in_ok-block-2.ensures in
    joined_full _ _ _ _ c.in_ok-block.ensures.reads (rw c.in_default.is at c.in_ok-block.ensures.answer)
    (rw c.in-None.is at added.answer) added.items
