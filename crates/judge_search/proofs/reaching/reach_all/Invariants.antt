use Rattle.judge_search.specs.Point.{point_at}
use Rattle.judge_search.proofs.ReachedPoints.{Reaches}
use Rattle.judge_search.proofs.reaching.reach_all.Given as goal

abbrev pub invariant-points : goal.invariant-points
invariant-points g l = Reaches (g.M.Object.rules) (point_at (g.M.Object.rules) l.fn.calls)
    (point_at (g.M.Object.rules) l.fn.calls l.fn.start) l.number l.known.points.items
