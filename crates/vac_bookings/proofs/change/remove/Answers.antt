use Rattle.std.proofs.Common.{arith}
use Rattle.vac_bookings.proofs.Changing.{unhung_after}
use Rattle.vac_bookings.proofs.change.remove.Goals as goal

pub remove_at-requires-clause-small : goal.remove_at-requires-clause-small
remove_at-requires-clause-small g c = omega (arith, c.requires.list.small, c.in_ok-spot.ensures.answer.kept.size)

pub returns-clause-answer : goal.returns-clause-answer
returns-clause-answer g c = unhung_after _ _ _ _ _ _ _ c.in_ok-spot.ensures.answer c.in_ok-removed.ensures.answer
