use Rattle.std.proofs.Common.{◌-◌, length, drop}
use Rattle.judge_calls.proofs.Arrows.{Reached}
use Rattle.judge_calls.proofs.arrow.cut_at_arrow.Given as goal

-- no word so far is an arrow
abbrev pub invariant-loop-word : goal.invariant-loop-word
invariant-loop-word l = Reached l.line l.start (drop l.start l.line)

abbrev pub decreases-loop-word : goal.decreases-loop-word
decreases-loop-word l = length l.line - l.start
