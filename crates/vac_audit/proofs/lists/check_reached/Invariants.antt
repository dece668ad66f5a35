use Rattle.vac_audit.proofs.Running.{ReachedGo}
use Rattle.vac_audit.proofs.lists.check_reached.Given as goal

abbrev pub invariant-loop-block : goal.invariant-loop-block
invariant-loop-block l = ReachedGo l.reached.items l.block
