use Rattle.std.proofs.Common.{◌≡◌}
use Rattle.test_cli.proofs.beside.ask_for_reports.Given as goal

abbrev pub invariant-loop : goal.invariant-loop
invariant-loop l = l.caller.shared ≡ l.initial.caller.shared
