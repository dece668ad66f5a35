use Rattle.std.proofs.Common.{arith, refl, subst, ap, List, ℕ, ◌+◌, ◌-◌, ◌/◌, length}
use Rattle.tx_alloc.specs.Spread.{IsLinked}
use Rattle.tx_alloc.proofs.Spread.{spread_pool}
use Rattle.tx_alloc.proofs.Spreading.{end_of, spread_step, spread_end, written_back}
use Rattle.tx_alloc.proofs.fresh.spread_words.Goals as goal

pub overflow_add-end-in-loop-list : goal.overflow_add-end-in-loop-list
overflow_add-end-in-loop-list c =
    let e = end_of _ _ _ _ _ c.loop-list.invariant c.loop-list-test.true refl in
    omega (arith, e.2, c.requires.most)

pub link_blocks-requires-clause-most : goal.link_blocks-requires-clause-most
link_blocks-requires-clause-most c =
    let e = end_of _ _ _ _ _ c.loop-list.invariant c.loop-list-test.true refl in
    omega (arith, e.2, c.requires.most)

pub link_blocks-requires-clause-room : goal.link_blocks-requires-clause-room
link_blocks-requires-clause-room c =
    let e = end_of _ _ _ _ _ c.loop-list.invariant c.loop-list-test.true refl in
    omega (arith, e.2, c.loop-list.invariant.size, ap (λ (xs : List ℕ). length xs) c.deref_mut.ensures.value)

pub loop-list-preserved : goal.loop-list-preserved
loop-list-preserved c =
    let back = written_back c.loop-list.words.items c.link_blocks.new.words _ c.loop-list.words.len
    c.deref_mut.ensures.value c.link_blocks.ensures.size
    (omega (arith, c.deref_mut.ensures.len, ap (λ (xs : List ℕ). length xs) c.deref_mut.ensures.value)) in
    rw back (spread_step _ _ _ _ _ _ c.loop-list.invariant c.loop-list-test.true refl
    (subst (λ (xs : List ℕ). IsLinked xs c.link_blocks.new.words c.loop-list.list c.loop-list.first
    (c.loop-list.first + (c.args.blocks + 7 - c.loop-list.list) / 8)) c.deref_mut.ensures.value
    c.link_blocks.ensures))

pub returns-clause-words : goal.returns-clause-words
returns-clause-words c = spread_end _ _ _ _ c.loop-list.invariant (omega arith)

pub returns-clause-pool : goal.returns-clause-pool
returns-clause-pool c = spread_pool _ _ (spread_end _ _ _ _ c.loop-list.invariant (omega arith))
