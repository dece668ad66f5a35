use Rattle.vac_records.proofs.Hanging.{unbooked_none, unbooked_some, taken_node}
use Rattle.vac_records.proofs.customer.unbook_at.Goals as goal

pub units_at-requires : goal.units_at-requires
units_at-requires g c = taken_node _ _ _ c.in-Some.block c.requires.small
    (rw c.in-Some.is at c.in_ok-remove_at.ensures.answer)

pub returns-in-None-clause-answer : goal.returns-in-None-clause-answer
returns-in-None-clause-answer g c = unbooked_none _ _ _ _ c.in-None.is c.in_ok-remove_at.ensures.answer

pub returns-in_ok-units-in-Some-clause-answer : goal.returns-in_ok-units-in-Some-clause-answer
returns-in_ok-units-in-Some-clause-answer g c =
    unbooked_some _ _ _ _ _ c.in-Some.block _ c.in-Some.is c.in_ok-remove_at.ensures.answer
    c.in_ok-units-in-Some.ensures.answer
