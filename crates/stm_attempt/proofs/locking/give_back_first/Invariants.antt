use Rattle.std.proofs.Common.{◌≡◌}
use Rattle.stm_logs.specs.Log.{log_locks}
use Rattle.stm_attempt.specs.CommitParts.{IsReturning}
use Rattle.stm_attempt.proofs.locking.give_back_first.Given as goal

abbrev pub invariant-loop-lock : goal.invariant-loop-lock
invariant-loop-lock g l =
    (goal.iterator-loop-lock g).can_next l.lock-iterator ×
    (goal.iterator-loop-lock g).is_finite l.lock-iterator ×
    (l.client.table ≡ l.region.table) ×
    IsReturning l.initial.client.value l.client.value l.count l.left l.lock-iterator (log_locks l.writes)
