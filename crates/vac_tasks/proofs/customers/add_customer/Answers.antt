use Rattle.vac_tasks.proofs.Held.{items_stay_reads}
use Rattle.vac_tasks.proofs.Joining.{none_left_over, table_in_hand, fresh_in_hand, joined_ran, items_stay_joined}
use Rattle.vac_tasks.proofs.Joining.{seated_at, stay_on}
use Rattle.vac_tasks.proofs.customers.add_customer.Goals as goal

pub returns-in_default-clause-answer : goal.returns-in_default-clause-answer
returns-in_default-clause-answer g c = none_left_over _ _ _ (rw c.in_default.is at c.in_ok-block.ensures.answer)

pub returns-in_default-clause-items : goal.returns-in_default-clause-items
returns-in_default-clause-items g c =
    let n = rw c.in_default.is at c.in_ok-block.ensures.answer in
    stay_on _ _ _ _ (items_stay_reads _ _ (record { kept = n.kept; writes = n.writes }))

pub insert-requires-clause-table : goal.insert-requires-clause-table
insert-requires-clause-table g c =
    table_in_hand _ _ _ _ _ _ (rw c.in-Some.is at c.in_ok-block.ensures.answer) c.in_ok-init_customer.ensures.answer
    c.requires.state

pub insert-requires-clause-fresh : goal.insert-requires-clause-fresh
insert-requires-clause-fresh g c =
    fresh_in_hand _ _ _ _ _ _ (rw c.in-Some.is at c.in_ok-block.ensures.answer) c.in_ok-init_customer.ensures.answer
    c.requires.state c.requires.missing

pub returns-clause-answer : goal.returns-clause-answer
returns-clause-answer g c =
    joined_ran _ _ _ _ _ _ (rw c.in-Some.is at c.in_ok-block.ensures.answer) c.in_ok-init_customer.ensures.answer
    _ c.in_ok-insert.ensures.answer c.requires.range

pub returns-clause-block : goal.returns-clause-block
returns-clause-block g c =
    seated_at _ _ _ _ _ _ (rw c.in-Some.is at c.in_ok-block.ensures.answer) c.in_ok-init_customer.ensures.answer
    _ c.in_ok-insert.ensures.answer c.requires.state (g.met.M.TxRead.seen c.insert.new.memory)

pub returns-clause-items : goal.returns-clause-items
returns-clause-items g c =
    items_stay_joined _ _ _ _ _ _ (rw c.in-Some.is at c.in_ok-block.ensures.answer) c.in_ok-init_customer.ensures.answer
    _ c.in_ok-insert.ensures.answer
