use Rattle.std.proofs.Common.{arith}
use Rattle.stm_replay.proofs.Placing.{place_found}
use Rattle.stm_replay.proofs.order.place_in.Goals as goal

pub returns-else-point-points-clause-place : goal.returns-else-point-points-clause-place
returns-else-point-points-clause-place c = place_found c.args.points.now c.args.point c.loop-place.place
    c.loop-place.invariant.0 c.loop-place.invariant.1 (λ h. let e = c.if-point-points.false in omega (arith, e))

pub returns-after-loop-place-clause-place : goal.returns-after-loop-place-clause-place
returns-after-loop-place-clause-place c = place_found c.args.points.now c.args.point c.loop-place.place
    c.loop-place.invariant.0 c.loop-place.invariant.1 (λ h. let e = c.loop-place-test.false in omega (arith, e))
