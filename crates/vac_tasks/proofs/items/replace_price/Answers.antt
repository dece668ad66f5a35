use Rattle.vac_tasks.proofs.Results.{if_ok}
use Rattle.vac_tasks.proofs.ItemMore.{price_given}
use Rattle.vac_tasks.proofs.items.replace_price.Goals as goal

pub returns-in-Some-clause-answer : goal.returns-in-Some-clause-answer
returns-in-Some-clause-answer g c = rw c.in-Some.is (if_ok _ _ _
    (λ _ h. price_given _ _ _ _ h) c.set_price.ensures.answer)
