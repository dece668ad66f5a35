use Rattle.vac_audit.proofs.Running.{ListsGo}
use Rattle.vac_audit.proofs.lists.walk_lists.Given as goal

abbrev pub invariant-loop-list : goal.invariant-loop-list
invariant-loop-list l = ListsGo l.words l.initial.reached.items l.reached.items l.list
