use Rattle.std.proofs.Common.{arith}
use Rattle.vac_bookings.proofs.Changing.{fresh_in, hung_after}
use Rattle.vac_bookings.proofs.change.insert.Goals as goal

pub insert_at-requires-clause-small : goal.insert_at-requires-clause-small
insert_at-requires-clause-small g c = omega (arith, c.requires.list.small, c.in_ok-spot.ensures.answer.kept.size)

pub insert_at-requires-clause-block : goal.insert_at-requires-clause-block
insert_at-requires-clause-block g c =
    let i = fresh_in _ _ _ _ c.requires.list c.requires.fresh (g.met.M.TxRead.seen c.args.memory.now) in
    omega (arith, i.room, c.in_ok-spot.ensures.answer.kept.size)

pub returns-clause-answer : goal.returns-clause-answer
returns-clause-answer g c =
    hung_after _ _ _ _ _ _ _ c.requires.key c.in_ok-spot.ensures.answer c.in_ok-insert_at.ensures.answer
