use Rattle.std.proofs.Common.{◌≡◌}
use Rattle.ex_ring_day.proofs.put_many.Given as goal

abbrev pub invariant-loop-i : goal.invariant-loop-i
invariant-loop-i l = l.caller.shared ≡ l.ring
