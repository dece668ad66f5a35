use Rattle.std.proofs.Common.{arith, refl, ap, ◌∙◌, ◌≡◌, ℕ, ◌+◌, ◌%◌}
use Rattle.tx_alloc.proofs.After.{has_read}
use Rattle.tx_alloc.specs.Steps.{kept_both}
use Rattle.tx_alloc.proofs.Taking.{look_start, look_step, look_end, heads_in, first_in, taken}
use Rattle.tx_alloc.proofs.Refilling.{is_dry, drawn_own, drawn_other, own_first}
use Rattle.tx_alloc.proofs.refill.take_refilling.Goals as goal

pub loop-i-init : goal.loop-i-init
loop-i-init g c = record { origin = refl; looking = look_start _ _ }

pub load-requires : goal.load-requires
load-requires g c =
    let i = heads_in _ _ c.loop-i.invariant.looking.kept c.requires.pool (g.met.M.TxRead.seen c.loop-i.memory) in
    omega (arith, i, c.head-head.ensures.word, c.head-head.ensures.small)

pub overflow_cast-block : goal.overflow_cast-block
overflow_cast-block g c =
    let i = first_in _ _ _ _ _ _ _ c.loop-i.invariant.looking c.in_ok-first.ensures.answer
    (c.head-head.ensures.word ∙ ap (λ (x : ℕ). 8 + x) c.new-from.ensures) c.if-first-ne0.true c.requires.pool
    (g.met.M.TxRead.seen c.load.new.memory) in
    omega (
      arith,
      i,
      c.requires.pool.small,
      c.loop-i.invariant.looking.kept.size,
      c.in_ok-first.ensures.answer.kept.size,
    )

pub load-requires-then-first-ne0 : goal.load-requires-then-first-ne0
load-requires-then-first-ne0 g c =
    let i = first_in _ _ _ _ _ _ _ c.loop-i.invariant.looking c.in_ok-first.ensures.answer
    (c.head-head.ensures.word ∙ ap (λ (x : ℕ). 8 + x) c.new-from.ensures) c.if-first-ne0.true c.requires.pool
    (g.met.M.TxRead.seen c.load.new.memory) in
    omega (arith, i)

pub store-requires : goal.store-requires
store-requires g c =
    let i = heads_in _ _ c.loop-i.invariant.looking.kept c.requires.pool (g.met.M.TxRead.seen c.loop-i.memory) in
    omega (
      arith,
      i,
      c.head-head.ensures.word,
      c.head-head.ensures.small,
      c.in_ok-first.ensures.answer.kept.size,
      c.in_ok-next.ensures.answer.kept.size,
    )

pub returns-then-i-eq0-clause-answer : goal.returns-then-i-eq0-clause-answer
returns-then-i-eq0-clause-answer g c =
    let at : c.head-head.result.0 ≡ 8 + (c.number-list.result + c.loop-i.i) % 8 = c.head-head.ensures.word ∙
    ap (λ (x : ℕ). 8 + x) c.new-from.ensures in
    rw (← c.number-list.ensures.number) (drawn_own _ _ c.number-list.result c.loop-i.i _ c.if-i-eq0.true
    c.number-list.ensures.small
    (own_first _ _ _ _ _ _ _ _ c.loop-i.invariant.looking c.number-list.ensures.small c.if-i-eq0.true at
    c.in_ok-first.ensures.answer (kept_both _ _ _ c.in_ok-next.ensures.answer.kept
    c.in_ok-store.ensures.answer.kept))
    c.if-first-ne0.true
    (taken _ _ _ _ _ c.number-list.result c.loop-i.i _ _ _ c.loop-i.invariant.looking c.in_ok-first.ensures.answer at
    c.if-first-ne0.true c.requires.pool c.in_ok-next.ensures.answer c.in_ok-store.ensures.answer
    (g.met.M.TxRead.seen c.load.new.memory)))

pub refill-requires-clause-pool : goal.refill-requires-clause-pool
refill-requires-clause-pool g c =
    has_read _ _ (kept_both _ _ _ c.loop-i.invariant.looking.kept
    (kept_both _ _ _ c.in_ok-first.ensures.answer.kept c.in_ok-next.ensures.answer.kept))
    (c.in_ok-next.ensures.answer.writes ∙ (c.in_ok-first.ensures.answer.writes ∙ c.loop-i.invariant.looking.writes))
    c.requires.pool

pub refill-requires-clause-dry : goal.refill-requires-clause-dry
refill-requires-clause-dry g c =
    rw (← c.number-list.ensures.number) (is_dry _ _ _ _ c.number-list.result c.loop-i.i _ _ _ _
    c.loop-i.invariant.looking c.if-i-eq0.false c.loop-i-test.true c.number-list.ensures.small
    c.head-head.ensures.word c.new-from.ensures c.if-first-ne0.true
    c.in_ok-first.ensures.answer c.in_ok-next.ensures.answer)

pub returns-then-first-ne0-clause-answer : goal.returns-then-first-ne0-clause-answer
returns-then-first-ne0-clause-answer g c =
    rw (← c.number-list.ensures.number) (drawn_other _ _ _ _ _ c.number-list.result c.loop-i.i _ _ _ _
    c.loop-i.invariant.looking c.if-i-eq0.false c.loop-i-test.true c.number-list.ensures.small
    c.head-head.ensures.word c.new-from.ensures c.if-first-ne0.true
    c.requires.pool c.in_ok-first.ensures.answer c.in_ok-next.ensures.answer (g.met.M.TxRead.seen c.load.new.memory)
    (rw c.number-list.ensures.number c.in_ok-refill.ensures.answer))

pub returns-clause-answer : goal.returns-clause-answer
returns-clause-answer g c = look_end _ _ _ _ c.number-list.ensures.small c.loop-i-test.false
    c.loop-i.invariant.looking

pub loop-i-preserved : goal.loop-i-preserved
loop-i-preserved g c = record {
  origin = c.in_ok-first.ensures.origin ∙ c.loop-i.invariant.origin;
  looking = look_step _ _ _ _ _ _ _ c.loop-i.invariant.looking c.in_ok-first.ensures.answer
      (c.head-head.ensures.word ∙ ap (λ (x : ℕ). 8 + x) c.new-from.ensures) c.if-first-ne0.false;
}
