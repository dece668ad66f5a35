use Rattle.std.proofs.Common.{length}
use Rattle.judge_search.specs.Calls.{calls_of, tries_from}
use Rattle.judge_search.specs.Point.{made_of, point_at}
use Rattle.judge_search.proofs.ReachedPoints.{HasTried}
use Rattle.judge_search.proofs.reaching.points_after.Given as goal

abbrev pub invariant-tries : goal.invariant-tries
invariant-tries g l =
    HasTried (g.M.Object.rules) (point_at (g.M.Object.rules) l.calls) (point_at (g.M.Object.rules) l.calls l.point)
    (tries_from (made_of l.point) (calls_of l.calls.lines.items) 0)
    (tries_from (made_of l.point) (calls_of l.calls.lines.items) l.from) l.nexts.items

abbrev pub decreases-tries : goal.decreases-tries
decreases-tries g l = length (tries_from (made_of l.point) (calls_of l.calls.lines.items) l.from)
