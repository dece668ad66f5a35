use Rattle.std.proofs.Common.{◌-◌, length}
use Rattle.judge_search.proofs.Marking.{Passes}
use Rattle.judge_search.proofs.marks.mark_low.Given as goal

abbrev pub invariant-marks : goal.invariant-marks
invariant-marks l = Passes l.fn.low l.fn.beyond.items l.next l.passed

abbrev pub decreases-marks : goal.decreases-marks
decreases-marks l = length l.beyond.items - l.passed
