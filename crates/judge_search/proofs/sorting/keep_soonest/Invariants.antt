use Rattle.judge_search.proofs.Soonest.{Keeps}
use Rattle.judge_search.proofs.sorting.keep_soonest.Given as goal

abbrev pub invariant-lines : goal.invariant-lines
invariant-lines g l = Keeps l.initial.lines l.lines l.back l.completed l.pending
