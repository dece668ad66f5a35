use Rattle.std.proofs.Common.{◌≡◌}
use Rattle.test_vac.proofs.audits.run_tasks.Given as goal

abbrev pub invariant-loop : goal.invariant-loop
invariant-loop l = l.caller.shared ≡ l.initial.caller.shared
