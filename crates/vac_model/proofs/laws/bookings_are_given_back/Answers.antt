use Rattle.vac_model.proofs.Settled.{cancelled, dropped}
use Rattle.vac_model.proofs.laws.bookings_are_given_back.Goals as goal

pub returns-clause-cancelled : goal.returns-clause-cancelled
returns-clause-cancelled c = cancelled

pub returns-clause-dropped : goal.returns-clause-dropped
returns-clause-dropped c = dropped
