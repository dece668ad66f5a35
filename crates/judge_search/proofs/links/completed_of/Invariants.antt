use Rattle.std.proofs.Common.{◌≡◌, ◌<◌, ℕ, true, get_or}
use Rattle.judge_object.specs.declared.line.Line.{Line}
use Rattle.judge_search.specs.Calls.{has_ended}
use Rattle.judge_search.proofs.links.completed_of.Given as goal

abbrev pub invariant-lines : goal.invariant-lines
invariant-lines g l = (j : ℕ) (d : Line _) → j < l.place → has_ended (get_or l.lines j d) ≡ true
