use Rattle.std.proofs.Common.{◌≡◌}
use Rattle.test_vac.proofs.random.in_turns.Given as goal

abbrev pub invariant-loop : goal.invariant-loop
invariant-loop g l = (l.a.shared ≡ l.initial.a.shared)
    × (l.b.shared ≡ l.initial.b.shared)
    × (l.c.shared ≡ l.initial.c.shared)
