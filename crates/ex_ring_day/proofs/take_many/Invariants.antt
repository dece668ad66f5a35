use Rattle.std.proofs.Common.{◌≡◌}
use Rattle.ex_ring_day.proofs.take_many.Given as goal

abbrev pub invariant-loop : goal.invariant-loop
invariant-loop l = l.caller.shared ≡ l.ring
