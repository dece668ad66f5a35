use Rattle.std.proofs.Common.{refl, ◌∙◌}
use Rattle.stm_logs.proofs.FingerLemmas.{fingers_both, fingers_same}
use Rattle.stm_logs.proofs.finger.point_all.Goals as goal

pub loop-e-init : goal.loop-e-init
loop-e-init g c = record { same = fingers_same _; count = refl }

pub loop-e-preserved : goal.loop-e-preserved
loop-e-preserved g c = record {
  same = fingers_both _ _ _ c.loop-e.invariant.same c.point.ensures.same;
  count = c.point.ensures.count ∙ c.loop-e.invariant.count;
}
