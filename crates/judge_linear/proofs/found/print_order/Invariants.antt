use Rattle.std.proofs.Common.{◌≡◌, ◌++◌, take}
use Rattle.judge_linear.specs.Found.{placed_text}
use Rattle.judge_linear.specs.Reading.{texts_of}
use Rattle.judge_linear.proofs.found.print_order.Given as goal

-- the lines so far
abbrev pub invariant-loop-place : goal.invariant-loop-place
invariant-loop-place l =
    l.out.items ≡ l.initial.out.items ++ placed_text (texts_of l.lines) (take l.place-index l.places)
