use Rattle.vac_tasks.proofs.ItemReads.{free_missing, free_there}
use Rattle.vac_tasks.proofs.items.free.Goals as goal

pub returns-in-None-clause-answer : goal.returns-in-None-clause-answer
returns-in-None-clause-answer g c =
    free_missing _ _ _ _ c.in_ok-find_item.ensures.reads (rw c.in-None.is at c.in_ok-find_item.ensures.answer)

pub returns-in_ok-free-in-Some-clause-answer : goal.returns-in_ok-free-in-Some-clause-answer
returns-in_ok-free-in-Some-clause-answer g c =
    free_there _ _ _ _ _ _ _ c.in_ok-find_item.ensures.reads
    (rw c.in-Some.is at c.in_ok-find_item.ensures.answer) c.in_ok-free-in-Some.ensures.answer
