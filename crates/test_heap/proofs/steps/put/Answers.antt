use Rattle.std.proofs.Common.{arith, refl}
use Rattle.tx_memory.specs.Plain.{flat_view}
use Rattle.tx_tree.specs.Table.{FoundRow}
use Rattle.tx_tree.proofs.Counting.{after_reads, after_put, fresh_read}
use Rattle.test_heap.proofs.steps.put.Goals as goal

pub insert-requires-clause-fresh : goal.insert-requires-clause-fresh
insert-requires-clause-fresh c =
    let f : FoundRow (flat_view c.load.new.memory) (flat_view c.find.new.memory) 3 c.in-Ok.key 0 =
    rw c.in-None.is at c.in-Ok-find.ensures.answer in
    fresh_read _ _ _ _ _ _ _ c.args.number _ c.requires (omega (arith, c.if-blocks-number.false)) refl
    c.in-Ok.ensures.answer f

pub returns-in-Ok-insert : goal.returns-in-Ok-insert
returns-in-Ok-insert c =
    let f : FoundRow (flat_view c.load.new.memory) (flat_view c.find.new.memory) 3 c.in-Ok.key 0 =
    rw c.in-None.is at c.in-Ok-find.ensures.answer in
    let l = c.in-Ok.ensures.answer in
    let fresh = fresh_read _ _ _ _ _ _ _ c.args.number _ c.requires
    (omega (arith, c.if-blocks-number.false)) refl l f in
    after_put _ _ _ _ _ _ _ (after_reads _ _ _ _ _ (after_reads _ _ _ _ _ c.requires l.kept l.writes) f.kept f.writes)
    (omega (arith, c.if-count-ge-MOST_BLOCKS.false)) fresh c.in-Ok-insert.ensures.answer
