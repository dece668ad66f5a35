use Rattle.std.proofs.Common.{◌≡◌, ◌++◌, take}
use Rattle.judge_calls.specs.CallText.{history_text}
use Rattle.judge_reservations.specs.Lines.{calls_of}
use Rattle.judge_part_text.proofs.printing.print_calls.Given as goal

-- the lines of the calls so far
abbrev pub invariant-lines : goal.invariant-lines
invariant-lines l =
    l.out.items ≡ l.initial.out.items ++ history_text (calls_of (take l.line-index l.lines))
