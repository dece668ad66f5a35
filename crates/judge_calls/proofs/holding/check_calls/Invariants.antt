use Rattle.std.proofs.Common.{length}
use Rattle.judge_calls.proofs.Handed.{HeldTo}
use Rattle.judge_calls.proofs.holding.check_calls.Given as goal

-- the calls so far ask for their clients' next tasks, and are counted
abbrev pub invariant-loop-line : goal.invariant-loop-line
invariant-loop-line l = HeldTo l.work l.held l.text l.rest

abbrev pub decreases-loop-line : goal.decreases-loop-line
decreases-loop-line l = length l.rest
