use Rattle.vac_tasks.proofs.Held.{held_on, ran_after}
use Rattle.vac_tasks.proofs.Results.{if_ok}
use Rattle.vac_tasks.proofs.items.add.Goals as goal

pub add_new-requires-clause-state : goal.add_new-requires-clause-state
add_new-requires-clause-state g c = held_on _ _ c.in_ok-found.ensures.reads c.requires.state

pub add_more-requires-clause-state : goal.add_more-requires-clause-state
add_more-requires-clause-state g c = held_on _ _ c.in_ok-found.ensures.reads c.requires.state

pub returns-in-None-clause-answer : goal.returns-in-None-clause-answer
returns-in-None-clause-answer g c = if_ok _ _ _ (λ r h. ran_after _ _ _ _ r c.in_ok-found.ensures.reads h)
    c.add_new.ensures.answer

pub returns-in-Some-clause-answer : goal.returns-in-Some-clause-answer
returns-in-Some-clause-answer g c = if_ok _ _ _ (λ r h. ran_after _ _ _ _ r c.in_ok-found.ensures.reads h)
    c.add_more.ensures.answer
