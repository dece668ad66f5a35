use Rattle.std.proofs.Common.{◌-◌, length}
use Rattle.judge_search.specs.Calls.{calls_of, tries_from}
use Rattle.judge_search.specs.Point.{made_of}
use Rattle.judge_search.proofs.Fronts.{Tries}
use Rattle.judge_search.proofs.frontier.nodes_after.Given as goal

abbrev pub invariant-tries : goal.invariant-tries
invariant-tries g l =
    Tries (g.M.Object.rules) l.calls l.node (tries_from (made_of l.node.point) (calls_of l.calls.lines.items) 0)
    (tries_from (made_of l.node.point) (calls_of l.calls.lines.items) l.from) l.nodes.items

abbrev pub decreases-tries : goal.decreases-tries
decreases-tries g l = length l.calls.lines.items - l.from
