use Rattle.std.proofs.Common.{◌-◌, length}
use Rattle.judge_search.specs.Frontier.{Settles}
use Rattle.judge_search.proofs.frontier.settled.Given as goal

abbrev pub invariant-tries : goal.invariant-tries
invariant-tries g l = Settles (g.M.Object.rules) l.calls l.fn.node l.node

abbrev pub decreases-tries : goal.decreases-tries
decreases-tries g l = length l.calls.lines.items - l.from
