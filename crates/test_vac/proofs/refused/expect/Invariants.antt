use Rattle.std.proofs.Common.{◌≡◌}
use Rattle.test_vac.proofs.refused.expect.Given as goal

abbrev pub invariant-loop-at : goal.invariant-loop-at
invariant-loop-at g l = l.caller.shared ≡ l.initial.caller.shared
