use Rattle.std.proofs.Common.{take, flat_map}
use Rattle.std.specs.Fmt.{HasWritten, IsPlainFormatter}
use Rattle.judge_linear.specs.Reading.{numbers_of}
use Rattle.judge_linear.specs.Found.{stuck_text, told_by}
use Rattle.judge_linear.proofs.found.BlockedCallsDisplay.fmt.Given as goal

-- the lines so far
abbrev pub invariant-loop-one : goal.invariant-loop-one
invariant-loop-one g l =
    IsPlainFormatter l.initial.f → HasWritten g.W.Write.write_str_gives l.initial.f
    (flat_map stuck_text (told_by (numbers_of l.initial.self.lines.now) (take l.one-index l.one-items))) l.f
