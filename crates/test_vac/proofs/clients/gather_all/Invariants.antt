use Rattle.std.proofs.Common.{◌≡◌}
use Rattle.test_vac.proofs.clients.gather_all.Given as goal

abbrev pub invariant-loop-other : goal.invariant-loop-other
invariant-loop-other l = l.caller.shared ≡ l.initial.caller.shared
