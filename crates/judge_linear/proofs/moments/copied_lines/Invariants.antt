use Rattle.std.proofs.Common.{◌≡◌, map, take}
use Rattle.judge_reservations.specs.Lines.{numbered}
use Rattle.judge_linear.proofs.moments.copied_lines.Given as goal

-- the lines so far are copied
abbrev pub invariant-lines : goal.invariant-lines
invariant-lines l = map numbered l.copies.items ≡ map numbered (take l.at l.lines)
