use Rattle.vac_audit.proofs.Running.{FreeGoes}
use Rattle.vac_audit.proofs.lists.walk_free.Given as goal

abbrev pub invariant-loop-level : goal.invariant-loop-level
invariant-loop-level l = FreeGoes l.words l.initial.reached.items l.head l.reached.items l._level l.at
