use Rattle.std.proofs.Common.{◌≤◌, ◌-◌, length}
use Rattle.judge_search.proofs.marks.mark_beyond.Given as goal

abbrev pub invariant-marks : goal.invariant-marks
invariant-marks l = l.number ≤ length l.beyond.items

abbrev pub decreases-marks : goal.decreases-marks
decreases-marks l = length l.beyond.items - l.number
