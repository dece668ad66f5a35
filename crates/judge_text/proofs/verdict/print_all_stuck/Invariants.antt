use Rattle.std.proofs.Common.{◌≡◌, ◌++◌, take, flat_map}
use Rattle.judge_text.specs.Texts.{stuck_text}
use Rattle.judge_text.proofs.verdict.print_all_stuck.Given as goal

abbrev pub invariant-stuck : goal.invariant-stuck
invariant-stuck g l =
    l.out.items ≡ l.initial.out.items ++ flat_map (stuck_text g.M.Object.rules l.lines) (take l.place l.stuck)
