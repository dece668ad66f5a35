use Rattle.vac_bookings.proofs.Changing.{unhung_none, unhung_some}
use Rattle.vac_bookings.proofs.change.remove_at.Goals as goal

pub returns-in-None-clause-answer : goal.returns-in-None-clause-answer
returns-in-None-clause-answer g c = unhung_none _ _ c.in-None.is

pub returns-in_ok-store-in-Some-clause-answer : goal.returns-in_ok-store-in-Some-clause-answer
returns-in_ok-store-in-Some-clause-answer g c =
    unhung_some _ _ _ _ _ _ c.in-Some.is c.requires.entry (rw c.word.ensures at c.in_ok-next-in-Some.ensures.answer)
    c.in_ok-store-in-Some.ensures.answer
