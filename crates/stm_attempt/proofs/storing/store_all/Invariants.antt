use Rattle.std.proofs.Common.{◌≡◌}
use Rattle.stm_logs.specs.Log.{pairs_by_lock}
use Rattle.stm_attempt.proofs.StoredPairs.{IsStoring}
use Rattle.stm_attempt.proofs.storing.store_all.Given as goal

abbrev pub invariant-loop-addr : goal.invariant-loop-addr
invariant-loop-addr g l =
    (goal.iterator-loop-addr g).can_next l.addr-iterator ×
    (goal.iterator-loop-addr g).is_finite l.addr-iterator ×
    (l.client.table ≡ l.region.table) ×
    IsStoring l.initial.client.value l.client.value (pairs_by_lock l.writes) l.addr-iterator
