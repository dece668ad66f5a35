use Rattle.std.proofs.Common.{◌≡◌, length, map}
use Rattle.vac_lines.specs.Lines.{lines_of}
use Rattle.judge_calls.specs.Call.{line_call}
use Rattle.judge_calls.specs.AnyOrder.{line_of_call}
use Rattle.judge_calls.proofs.in_order.find_call.Given as goal

-- the call is looked for in the lines that are left
abbrev pub invariant-loop-line : goal.invariant-loop-line
invariant-loop-line l = line_of_call l.client l.before 1 (map line_call (lines_of l.history))
    ≡ line_of_call l.client l.left l.number (map line_call (lines_of l.rest))

abbrev pub decreases-loop-line : goal.decreases-loop-line
decreases-loop-line l = length l.rest
