use Rattle.vac_tasks.proofs.HeldReport.{held_on}
use Rattle.vac_tasks.proofs.Reports.{reported}
use Rattle.vac_tasks.proofs.reporting.report.Goals as goal

pub sum_items-requires-2 : goal.sum_items-requires-2
sum_items-requires-2 g c = held_on _ _ c.in_ok-cars.ensures.answer.reads c.requires

pub sum_items-requires-3 : goal.sum_items-requires-3
sum_items-requires-3 g c =
    held_on _ _ c.in_ok-flights.ensures.answer.reads (held_on _ _ c.in_ok-cars.ensures.answer.reads c.requires)

pub sum_customers-requires : goal.sum_customers-requires
sum_customers-requires g c =
    held_on _ _ c.in_ok-rooms.ensures.answer.reads
    (held_on _ _ c.in_ok-flights.ensures.answer.reads (held_on _ _ c.in_ok-cars.ensures.answer.reads c.requires))

pub returns-clause-answer : goal.returns-clause-answer
returns-clause-answer g c =
    reported _ _ _ _ _ _ _ _ _ _ _ c.plus.ensures c.plus-items.ensures c.in_ok-cars.ensures.answer
    c.in_ok-flights.ensures.answer c.in_ok-rooms.ensures.answer c.in_ok-customers.ensures.answer
