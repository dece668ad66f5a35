use Rattle.judge_search.specs.Point.{point_at, point_views}
use Rattle.judge_search.specs.Walking.{BestIsWithin, Walks}
use Rattle.judge_search.proofs.walk.find_order.Given as goal

abbrev pub invariant-walk : goal.invariant-walk
invariant-walk g l = BestIsWithin l.walk × Walks (g.M.Object.rules) (point_views (g.M.Object.rules) l.fn.calls)
    (point_at (g.M.Object.rules) l.fn.calls l.fn.start) l.made l.walk
