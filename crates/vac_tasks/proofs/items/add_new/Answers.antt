use Rattle.vac_tasks.proofs.ItemNew.{needs_price, needs_count, no_place, table_in_hand, fresh_in_hand, new_done}
use Rattle.vac_tasks.proofs.items.add_new.Goals as goal

pub returns-in_default-clause-answer : goal.returns-in_default-clause-answer
returns-in_default-clause-answer g c = rw c.in_default.is (needs_price _ _ _ _ c.requires.missing)

pub returns-then-num-eq0-clause-answer : goal.returns-then-num-eq0-clause-answer
returns-then-num-eq0-clause-answer g c = rw c.in-Some.is (needs_count _ _ _ _ _ c.requires.missing c.if-num-eq0.true)

pub returns-in_default-taken-clause-answer : goal.returns-in_default-taken-clause-answer
returns-in_default-taken-clause-answer g c = rw c.in-Some.is
    (no_place _ _ _ _ _ _ c.requires.missing c.if-num-eq0.false
    (rw c.in_default-taken.is at c.in_ok-taken.ensures.answer))

pub insert-requires-clause-table : goal.insert-requires-clause-table
insert-requires-clause-table g c = table_in_hand _ _ _ _ _ _ _ _ _ _ c.root_of.ensures c.requires.state
    (rw c.in-Some-taken.is at c.in_ok-taken.ensures.answer) c.in_ok-init_item.ensures.answer

pub insert-requires-clause-fresh : goal.insert-requires-clause-fresh
insert-requires-clause-fresh g c = fresh_in_hand _ _ _ _ _ _ _ _ _ _ c.root_of.ensures c.requires.state
    c.requires.missing (rw c.in-Some-taken.is at c.in_ok-taken.ensures.answer) c.in_ok-init_item.ensures.answer

pub returns-clause-answer : goal.returns-clause-answer
returns-clause-answer g c = rw c.in-Some.is (new_done _ _ _ _ _ _ _ _ _ _ _ c.root_of.ensures c.requires.missing
    (rw c.in-Some.is at c.requires.range) c.if-num-eq0.false
    (rw c.in-Some-taken.is at c.in_ok-taken.ensures.answer) c.in_ok-init_item.ensures.answer
    c.in_ok-insert.ensures.answer)
