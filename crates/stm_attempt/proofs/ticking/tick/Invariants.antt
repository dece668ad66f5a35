use Rattle.std.proofs.Common.{◌≡◌, ◌≤◌, true}
use Rattle.stm_attempt.proofs.Ticks.{IsTicking}
use Rattle.stm_attempt.proofs.ticking.tick.Given as goal

abbrev pub invariant-loop : goal.invariant-loop
invariant-loop g l =
    (l.client.table ≡ l.initial.client.table) ×
    (l.from ≤ l.region.last) ×
    IsTicking l.initial.client.value l.client.value l.counter l.from ×
    (l.initial.client.value.attempt.lone ≡ true → (l.counter ≡ 0) × (l.from ≡ l.fn.rv))
