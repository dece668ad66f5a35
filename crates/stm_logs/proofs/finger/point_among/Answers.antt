use Rattle.std.proofs.Common.{◌∙◌, arith}
use Rattle.stm_logs.proofs.FingerLemmas.{fingers_both}
use Rattle.stm_logs.proofs.finger.point_among.Goals as goal

pub loop-scale-preserved : goal.loop-scale-preserved
loop-scale-preserved g c = record {
  same = fingers_both _ _ _ c.loop-scale.invariant.same c.point_at.ensures.same;
  count = c.point_at.ensures.count ∙ c.loop-scale.invariant.count;
}

pub point_at-requires-clause-room : goal.point_at-requires-clause-room
point_at-requires-clause-room g c = omega (
  arith,
  c.loop-scale.invariant.same.len,
  c.loop-scale.invariant.count,
  c.requires.room,
)

pub point_at-requires-clause-limit : goal.point_at-requires-clause-limit
point_at-requires-clause-limit g c = omega (arith, c.loop-scale.invariant.same.len, c.requires.limit)
