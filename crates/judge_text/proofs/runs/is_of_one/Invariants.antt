use Rattle.std.proofs.Common.{◌≡◌, ◌<◌, ◌≤◌, ℕ}
use Rattle.judge_object.specs.declared.line.Line.{Line}
use Rattle.judge_text.specs.Classing.{object_of, for_object}
use Rattle.judge_text.specs.Runs.{name_at}
use Rattle.judge_text.proofs.runs.is_of_one.Given as goal

abbrev pub invariant-lines : goal.invariant-lines
invariant-lines g l = (j : ℕ) (d : Line _) → 1 ≤ j → j < l.place →
    name_at (for_object (object_of l.names) (g.M.Named.name)) l.lines j d ≡ name_at (for_object
    (object_of l.names) (g.M.Named.name)) l.lines 0 d
