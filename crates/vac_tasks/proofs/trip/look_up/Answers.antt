use Rattle.vac_tasks.proofs.Choosing.{looked_none, looked_up}
use Rattle.vac_tasks.proofs.trip.look_up.Goals as goal

pub returns-in_default-clause-answer : goal.returns-in_default-clause-answer
returns-in_default-clause-answer g c =
    looked_none _ _ _ _ c.in_ok-item.ensures.reads (rw c.in_default.is at c.in_ok-item.ensures.answer)

pub returns-clause-answer : goal.returns-clause-answer
returns-clause-answer g c =
    looked_up _ _ _ _ _ c.requires.range c.in_ok-item.ensures.reads
    (rw c.in-Some.is at c.in_ok-item.ensures.answer) c.in_ok-price.ensures.answer
