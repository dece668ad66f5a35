use Rattle.std.proofs.Common.{refl, ◌∙◌, arith}
use Rattle.vac_bookings.proofs.Seeking.{seek_start, seek_in, seek_below, seek_end, seek_here, seek_past, seek_step}
use Rattle.vac_bookings.proofs.search.seek.Goals as goal

pub loop-word-init : goal.loop-word-init
loop-word-init g c = record { origin = refl; seeking = seek_start _ _ _ c.requires.list }

pub returns-then-word-eq0-clause-answer : goal.returns-then-word-eq0-clause-answer
returns-then-word-eq0-clause-answer g c =
    seek_end _ _ _ _ _ _ _ _ c.loop-word.invariant.seeking c.in_ok-word.ensures.answer c.if-word-eq0.true

pub overflow_cast-block : goal.overflow_cast-block
overflow_cast-block g c =
    let i = seek_in _ _ _ _ _ _ _ _ c.loop-word.invariant.seeking c.in_ok-word.ensures.answer c.requires.list
    c.if-word-eq0.false (g.met.M.TxRead.seen c.load.new.memory) in
    omega arith

pub compare_key-requires-clause-block : goal.compare_key-requires-clause-block
compare_key-requires-clause-block g c =
    (seek_in _ _ _ _ _ _ _ _ c.loop-word.invariant.seeking c.in_ok-word.ensures.answer c.requires.list
    c.if-word-eq0.false (g.met.M.TxRead.seen c.load.new.memory)).room

pub returns-in-Equal-clause-answer : goal.returns-in-Equal-clause-answer
returns-in-Equal-clause-answer g c =
    seek_here _ _ _ _ _ _ _ _ _ _ c.requires.key c.loop-word.invariant.seeking c.requires.list
    c.in_ok-word.ensures.answer c.in_ok-order.ensures.answer c.if-word-eq0.false
    (g.met.M.TxRead.seen c.load.new.memory) c.in-Equal.is

pub returns-in-Greater-clause-answer : goal.returns-in-Greater-clause-answer
returns-in-Greater-clause-answer g c =
    seek_past _ _ _ _ _ _ _ _ _ _ c.requires.key c.loop-word.invariant.seeking c.requires.list
    c.in_ok-word.ensures.answer c.in_ok-order.ensures.answer c.if-word-eq0.false c.in-Greater.is

pub overflow_add-passed : goal.overflow_add-passed
overflow_add-passed g c = omega arith

pub word-link-requires : goal.word-link-requires
word-link-requires g c =
    let i = seek_in _ _ _ _ _ _ _ _ c.loop-word.invariant.seeking c.in_ok-word.ensures.answer c.requires.list
    c.if-word-eq0.false (g.met.M.TxRead.seen c.load.new.memory) in
    omega arith

pub loop-word-smaller : goal.loop-word-smaller
loop-word-smaller g c =
    let b = seek_below _ _ _ _ _ _ _ _ _ _ c.requires.key c.loop-word.invariant.seeking c.requires.list
    c.in_ok-word.ensures.answer c.in_ok-order.ensures.answer c.if-word-eq0.false c.in-Less.is
    (g.met.M.TxRead.seen c.compare_key.new.memory) in
    omega (arith, b)

pub loop-word-preserved : goal.loop-word-preserved
loop-word-preserved g c = record {
  origin = c.in_ok-order.ensures.origin ∙ (c.in_ok-word.ensures.origin ∙ c.loop-word.invariant.origin);
  seeking = rw c.word-link.ensures (seek_step _ _ _ _ _ _ _ _ _ _ c.requires.key c.loop-word.invariant.seeking
      c.requires.list c.in_ok-word.ensures.answer c.in_ok-order.ensures.answer c.if-word-eq0.false
      (g.met.M.TxRead.seen c.load.new.memory) c.in-Less.is (g.met.M.TxRead.seen c.compare_key.new.memory));
}
