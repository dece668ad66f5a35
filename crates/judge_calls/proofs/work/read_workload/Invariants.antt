use Rattle.std.proofs.Common.{length}
use Rattle.judge_calls.proofs.Handed.{ReadTo}
use Rattle.judge_calls.proofs.work.read_workload.Given as goal

-- the lines so far are in the work
abbrev pub invariant-loop-line : goal.invariant-loop-line
invariant-loop-line l = ReadTo l.work l.count l.text l.rest

abbrev pub decreases-loop-line : goal.decreases-loop-line
decreases-loop-line l = length l.rest
