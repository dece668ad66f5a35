use Rattle.std.proofs.Common.{◌≡◌}
use Rattle.stm_logs.specs.Log.{log_locks}
use Rattle.stm_attempt.specs.CommitParts.{IsClimbing}
use Rattle.stm_attempt.proofs.locking.lock_all.Given as goal

abbrev pub invariant-loop-lock : goal.invariant-loop-lock
invariant-loop-lock g l =
    (goal.iterator-loop-lock g).can_next l.lock-iterator ×
    (goal.iterator-loop-lock g).is_finite l.lock-iterator ×
    (l.client.table ≡ l.region.table) ×
    IsClimbing l.initial.client.value l.client.value l.taken l.lock-iterator (log_locks l.writes)
