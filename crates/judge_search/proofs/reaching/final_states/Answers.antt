use Rattle.std.proofs.Common.{sym, subst}
use Rattle.judge_object.proofs.CutLines.{all_met, one_on}
use Rattle.judge_search.specs.Point.{point_at}
use Rattle.judge_search.specs.Reaching.{AreFinal}
use Rattle.judge_search.proofs.ReachedPoints.{final_none}
use Rattle.judge_search.proofs.reaching.final_states.Goals as goal

pub points-init : goal.points-init
points-init g c = record {
  all = sym c.into_iter-point-iterator.ensures.into_iter_gives.0;
  are = final_none (point_at g.M.Object.rules c.args.calls.now) c.new-states.result.items c.new-states.ensures.items;
}

pub points-preserved : goal.points-preserved
points-preserved g c = record {
  all = one_on _ _ _ _ _ c.points.invariant.all c.in-Some.ensures.steps.0;
  are = c.in_ok-take_final.ensures c.points.yielded c.points.invariant.are;
}

pub returns : goal.returns
returns g c =
    subst (λ points. AreFinal (point_at g.M.Object.rules c.args.calls.now) points c.points.states.items)
    (all_met _ _ c.points.point-iterator c.points.invariant.all c.in-None.ensures.steps.0) c.points.invariant.are
