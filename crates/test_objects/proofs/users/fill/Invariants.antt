use Rattle.std.proofs.Common.{◌≡◌}
use Rattle.test_objects.proofs.users.fill.Given as goal

abbrev pub invariant-loop-i : goal.invariant-loop-i
invariant-loop-i l = l.caller.shared ≡ l.initial.caller.shared
