use Rattle.vac_tasks.proofs.ItemReads.{price_missing, price_there}
use Rattle.vac_tasks.proofs.items.price.Goals as goal

pub returns-in-None-clause-answer : goal.returns-in-None-clause-answer
returns-in-None-clause-answer g c =
    price_missing _ _ _ _ c.in_ok-find_item.ensures.reads (rw c.in-None.is at c.in_ok-find_item.ensures.answer)

pub returns-in_ok-price-in-Some-clause-answer : goal.returns-in_ok-price-in-Some-clause-answer
returns-in_ok-price-in-Some-clause-answer g c =
    price_there _ _ _ _ _ _ _ c.in_ok-find_item.ensures.reads
    (rw c.in-Some.is at c.in_ok-find_item.ensures.answer) c.in_ok-price-in-Some.ensures.answer
