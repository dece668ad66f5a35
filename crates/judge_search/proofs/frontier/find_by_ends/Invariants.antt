use Rattle.judge_search.specs.Point.{point_at}
use Rattle.judge_search.proofs.Fronts.{Searches}
use Rattle.judge_search.proofs.frontier.find_by_ends.Given as goal

abbrev pub invariant-ends : goal.invariant-ends
invariant-ends g l = Searches (g.M.Object.rules) l.calls (point_at (g.M.Object.rules) l.calls l.fn.start) l.best
    l.nodes.items
