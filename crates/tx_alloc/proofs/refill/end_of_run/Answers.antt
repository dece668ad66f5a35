use Rattle.std.proofs.Common.{arith, refl, ◌∙◌}
use Rattle.tx_alloc.proofs.Walking.{walk_start, next_in, walk_step, walk_short, walk_long}
use Rattle.tx_alloc.proofs.refill.end_of_run.Goals as goal

pub loop-init : goal.loop-init
loop-init g c = record { origin = refl; walking = walk_start _ _ _ c.requires.begins }

pub returns-then-behind-eq0-clause-answer : goal.returns-then-behind-eq0-clause-answer
returns-then-behind-eq0-clause-answer g c = walk_short _ _ _ _ _ _ c.loop.invariant.walking c.loop-test.true
    c.if-behind-eq0.true

pub overflow_cast-last : goal.overflow_cast-last
overflow_cast-last g c =
    let i = next_in _ _ _ _ _ _ _ c.requires.begins c.loop.invariant.walking c.if-behind-eq0.false c.requires.pool
    (g.met.M.TxRead.seen c.loop.memory) in
    omega (arith, i, c.requires.pool.small, c.loop.invariant.walking.kept.size)

pub load-requires : goal.load-requires
load-requires g c =
    let i = next_in _ _ _ _ _ _ _ c.requires.begins c.loop.invariant.walking c.if-behind-eq0.false c.requires.pool
    (g.met.M.TxRead.seen c.loop.memory) in
    omega (arith, i)

pub loop-preserved : goal.loop-preserved
loop-preserved g c = record {
  origin = c.in_ok-behind.ensures.origin ∙
      c.loop.invariant.origin;
  walking = walk_step _ _ _ _ _ _ _ _ c.loop.invariant.walking c.if-behind-eq0.false
      c.in_ok-behind.ensures.answer;
}

pub returns-clause-answer : goal.returns-clause-answer
returns-clause-answer g c = walk_long _ _ _ _ _ _ c.loop.invariant.walking c.loop-test.false (omega arith)
