use Rattle.std.proofs.Common.{sym, subst}
use Rattle.judge_object.proofs.CutLines.{all_met, one_on}
use Rattle.judge_search.specs.Point.{point_at}
use Rattle.judge_search.specs.Reaching.{AddsNew}
use Rattle.judge_search.proofs.ReachedPoints.{adds_none, adds_more}
use Rattle.judge_search.proofs.reaching.meet_all.Goals as goal

pub points-init : goal.points-init
points-init g c = record {
  all = sym c.into_iter-point-iterator.ensures.into_iter_gives.0;
  adds = λ calls. adds_none (point_at g.M.Object.rules calls) c.args.known.now.points.items;
}

pub points-preserved : goal.points-preserved
points-preserved g c = record {
  all = one_on _ _ _ _ _ c.points.invariant.all c.in-Some.ensures.steps.0;
  adds = λ calls. adds_more (point_at g.M.Object.rules calls) c.points.yielded c.in-Some.point _ _ _
      (c.points.invariant.adds calls) (c.in_ok-meet.ensures calls);
}

pub returns : goal.returns
returns g c = λ calls.
    subst (λ points. AddsNew (point_at g.M.Object.rules calls) points c.args.known.now.points.items
    c.points.known.points.items)
    (all_met _ _ c.points.point-iterator c.points.invariant.all c.in-None.ensures.steps.0)
    (c.points.invariant.adds calls)
