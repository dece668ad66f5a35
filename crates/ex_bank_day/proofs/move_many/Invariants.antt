use Rattle.std.proofs.Common.{◌≡◌}
use Rattle.ex_bank_day.proofs.move_many.Given as goal

abbrev pub invariant-loop : goal.invariant-loop
invariant-loop l = l.caller.shared ≡ l.bank
