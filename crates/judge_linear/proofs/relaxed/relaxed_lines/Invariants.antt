use Rattle.std.proofs.Common.{take}
use Rattle.judge_linear.specs.Relaxed.{AreRelaxedLines}
use Rattle.judge_linear.proofs.relaxed.relaxed_lines.Given as goal

-- the lines so far are relaxed
abbrev pub invariant-lines : goal.invariant-lines
invariant-lines l = AreRelaxedLines l.level (take l.at l.lines) l.relaxed.items
