use Rattle.std.proofs.Common.{take}
use Rattle.std.specs.Fmt.{HasWritten, IsPlainFormatter}
use Rattle.load_record.specs.Lines.{accesses_text}
use Rattle.load_record.proofs.lines.AccessListDisplay.fmt.Given as goal

-- the accesses so far
abbrev pub invariant-loop-access : goal.invariant-loop-access
invariant-loop-access g l =
    IsPlainFormatter l.initial.f → HasWritten g.W.Write.write_str_gives l.initial.f
    (accesses_text (take l.access-index l.access-items)) l.f
