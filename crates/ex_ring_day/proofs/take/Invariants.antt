use Rattle.std.proofs.Common.{◌≡◌}
use Rattle.ex_ring_day.proofs.take.Given as goal

abbrev pub invariant-loop : goal.invariant-loop
invariant-loop l = l.caller.shared ≡ l.fn.caller.shared
