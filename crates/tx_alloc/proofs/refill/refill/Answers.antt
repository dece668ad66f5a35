use Rattle.std.proofs.Common.{arith}
use Rattle.tx_alloc.specs.Steps.{kept_both}
use Rattle.tx_alloc.proofs.Taking.{heads_in}
use Rattle.tx_alloc.proofs.Refilling.{last_in, refilled_lone, refilled_more}
use Rattle.tx_alloc.proofs.refill.refill.Goals as goal

pub store-requires : goal.store-requires
store-requires g c =
    let i = heads_in _ _ c.in_ok-run.ensures.answer.kept c.requires.pool (g.met.M.TxRead.seen c.end_of_run.new.memory)
    in
    omega (arith, i, c.head.ensures.word, c.head.ensures.small)

pub returns-then-next-eq0-clause-answer : goal.returns-then-next-eq0-clause-answer
returns-then-next-eq0-clause-answer g c =
    refilled_lone _ _ _ _ _ _ _ _ _ _ c.head.ensures.small c.head.ensures.word c.requires.dry
    c.in_ok-run.ensures.answer c.if-next-eq0.true c.in_ok-store.ensures.answer

pub store-requires-2 : goal.store-requires-2
store-requires-2 g c =
    let i = last_in _ _ _ _ _ _ _ _ _ c.head.ensures.small c.requires.dry c.in_ok-run.ensures.answer
    c.in_ok-store.ensures.answer.kept c.requires.pool (g.met.M.TxRead.seen c.store.new.memory) in
    omega (arith, i)

pub store-requires-3 : goal.store-requires-3
store-requires-3 g c =
    let k = kept_both _ _ _ c.in_ok-run.ensures.answer.kept
    (kept_both _ _ _ c.in_ok-store.ensures.answer.kept c.in_ok-store-2.ensures.answer.kept) in
    let i = heads_in _ _ k c.requires.pool (g.met.M.TxRead.seen c.store-2.new.memory) in
    omega (arith, i, c.head-2.ensures.word, c.head-2.ensures.small)

pub returns-clause-answer : goal.returns-clause-answer
returns-clause-answer g c =
    refilled_more _ _ _ _ _ _ _ _ _ _ _ _ _ c.head.ensures.small c.head.ensures.word c.head-2.ensures.word
    c.requires.dry c.in_ok-run.ensures.answer c.if-next-eq0.false c.in_ok-store.ensures.answer
    c.in_ok-store-2.ensures.answer c.in_ok-store-3.ensures.answer
