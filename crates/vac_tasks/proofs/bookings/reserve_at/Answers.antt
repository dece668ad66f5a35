use Rattle.vac_tasks.proofs.Held.{held_on, item_is_on, customer_is_on}
use Rattle.vac_tasks.proofs.Reserving.{load_only, at_head, price_read}
use Rattle.vac_tasks.proofs.Staying.{has_head}
use Rattle.vac_tasks.proofs.bookings.reserve_at.Goals as goal

pub reserve_from-requires-clause-state : goal.reserve_from-requires-clause-state
reserve_from-requires-clause-state g c =
    held_on _ _ (load_only _ _ _ _ c.in_ok-price.ensures.answer) c.requires.state

pub reserve_from-requires-clause-customer : goal.reserve_from-requires-clause-customer
reserve_from-requires-clause-customer g c =
    customer_is_on _ _ _ _ (load_only _ _ _ _ c.in_ok-price.ensures.answer) c.requires.customer

pub reserve_from-requires-clause-item : goal.reserve_from-requires-clause-item
reserve_from-requires-clause-item g c =
    item_is_on _ _ _ _ _ (load_only _ _ _ _ c.in_ok-price.ensures.answer) c.requires.item

pub reserve_from-requires-clause-price : goal.reserve_from-requires-clause-price
reserve_from-requires-clause-price g c = price_read _ _ _ _ c.in_ok-price.ensures.answer

pub reserve_from-requires-clause-from : goal.reserve_from-requires-clause-from
reserve_from-requires-clause-from g c = rw c.word-from.ensures (has_head _ _ _ _ (customer_is_on _ _ _ _
    (load_only _ _ _ _ c.in_ok-price.ensures.answer) c.requires.customer))

pub returns-clause-answer : goal.returns-clause-answer
returns-clause-answer g c = at_head _ _ _ _ _ _ _ _ _ _ _ c.in_ok-price.ensures.answer
    (rw c.word-from.ensures at c.in_ok-refused.ensures.answer)
