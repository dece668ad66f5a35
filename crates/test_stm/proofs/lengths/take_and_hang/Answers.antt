use Rattle.test_stm.proofs.Nulled.{nulls_held, nulls_pool, nulls_took, nulls_loaded, nulls_table, nulls_fresh}
use Rattle.test_stm.proofs.Nulled.{head_inserted, head_loaded, head_list, head_fresh}
use Rattle.test_stm.proofs.lengths.take_and_hang.Goals as goal

pub take-requires : goal.take-requires
take-requires g c = record { pool = nulls_pool _ (nulls_held _ c.requires.nulls) }

pub insert-requires-clause-table : goal.insert-requires-clause-table
insert-requires-clause-table g c =
    nulls_table _ (nulls_loaded _ _ _ _ (nulls_took c.in_ok-taken.taken _ _ _
    (nulls_held _ c.requires.nulls) c.in_ok-taken.ensures.answer) c.in_ok-number.ensures.answer)

pub insert-requires-clause-fresh : goal.insert-requires-clause-fresh
insert-requires-clause-fresh g c =
    nulls_fresh _ _ _ (nulls_took c.in_ok-taken.taken _ _ _ (nulls_held _ c.requires.nulls)
    c.in_ok-taken.ensures.answer) c.in_ok-number.ensures.answer

pub insert-requires-then-id-clause-list : goal.insert-requires-then-id-clause-list
insert-requires-then-id-clause-list g c =
    let nulls = nulls_took c.in_ok-taken.taken _ _ _ (nulls_held _ c.requires.nulls) c.in_ok-taken.ensures.answer in
    let head = head_inserted _ _ _ (nulls_loaded _ _ _ _ nulls c.in_ok-number.ensures.answer)
    (nulls_fresh _ _ _ nulls c.in_ok-number.ensures.answer) c.in_ok-insert.ensures.answer in
    head_list _ (head_loaded _ _ _ _ (head_loaded _ _ _ _ head c.in_ok-kind.ensures.answer) c.in_ok-id.ensures.answer)

pub insert-requires-then-id-clause-fresh : goal.insert-requires-then-id-clause-fresh
insert-requires-then-id-clause-fresh g c =
    let nulls = nulls_took c.in_ok-taken.taken _ _ _ (nulls_held _ c.requires.nulls) c.in_ok-taken.ensures.answer in
    let head = head_inserted _ _ _ (nulls_loaded _ _ _ _ nulls c.in_ok-number.ensures.answer)
    (nulls_fresh _ _ _ nulls c.in_ok-number.ensures.answer) c.in_ok-insert.ensures.answer in
    head_fresh _ _ _ _ _ head c.in_ok-kind.ensures.answer c.in_ok-id.ensures.answer
