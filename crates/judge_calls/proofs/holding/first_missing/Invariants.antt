use Rattle.std.proofs.Common.{length}
use Rattle.judge_calls.proofs.Handed.{AllSeen}
use Rattle.judge_calls.proofs.holding.first_missing.Given as goal

-- no task so far is missing
abbrev pub invariant-loop-client : goal.invariant-loop-client
invariant-loop-client l = AllSeen l.work l.held l.seen l.rest

abbrev pub decreases-loop-client : goal.decreases-loop-client
decreases-loop-client l = length l.rest
