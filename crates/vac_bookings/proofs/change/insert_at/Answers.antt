use Rattle.vac_bookings.proofs.Changing.{hung}
use Rattle.vac_bookings.proofs.change.insert_at.Goals as goal

pub returns-clause-answer : goal.returns-clause-answer
returns-clause-answer g c = hung _ _ _ _ _ (rw c.word.ensures at c.in_ok-store.ensures.answer)
    (rw c.addr.ensures at c.in_ok-store-2.ensures.answer)
