use Rattle.judge_reservations.proofs.Cuts.{before_cut, after_cut, before_all, after_all}
use Rattle.judge_reservations.proofs.trips.split_first.Goals as goal

pub returns-in-Some-clause-before : goal.returns-in-Some-clause-before
returns-in-Some-clause-before c = before_cut _ _ _ _ c.in-Some.ensures.0 c.in-Some.ensures.1

pub returns-in-Some-clause-after : goal.returns-in-Some-clause-after
returns-in-Some-clause-after c = after_cut _ _ _ _ c.in-Some.ensures.0 c.in-Some.ensures.1

pub returns-in-None-clause-before : goal.returns-in-None-clause-before
returns-in-None-clause-before c = before_all _ _ c.in-None.ensures

pub returns-in-None-clause-after : goal.returns-in-None-clause-after
returns-in-None-clause-after c = after_all _ _ c.in-None.ensures
