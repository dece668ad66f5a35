use Rattle.std.proofs.Common.{arith}
use Rattle.tx_tree.proofs.Walks.{top_inside, leads_right, stepped, ended}
use Rattle.tx_tree.proofs.walk.Walk.next.Goals as goal

pub returns-then-self-eq0-clause-answer : goal.returns-then-self-eq0-clause-answer
returns-then-self-eq0-clause-answer g c = ended _ _ c.if-self-eq0.true

pub offset_bounds-self-self : goal.offset_bounds-self-self
offset_bounds-self-self g c =
    let t = top_inside _ _ c.requires.walk c.if-self-eq0.false (g.met.M.TxRead.seen c.args.memory.now) in
    omega (arith, t.deep)

pub bounds-self-self : goal.bounds-self-self
bounds-self-self g c =
    let t = top_inside _ _ c.requires.walk c.if-self-eq0.false (g.met.M.TxRead.seen c.args.memory.now) in
    omega (arith, t.deep)

pub overflow_add-node : goal.overflow_add-node
overflow_add-node g c =
    let t = top_inside _ _ c.requires.walk c.if-self-eq0.false (g.met.M.TxRead.seen c.args.memory.now) in
    omega (arith, t.high, c.requires.walk.small)

pub descend-requires : goal.descend-requires
descend-requires g c = record {
  link = leads_right _ _ c.requires.walk c.if-self-eq0.false
      (top_inside _ _ c.requires.walk c.if-self-eq0.false (g.met.M.TxRead.seen c.args.memory.now));
}

pub returns-clause-answer : goal.returns-clause-answer
returns-clause-answer g c = stepped _ _ _ _ c.if-self-eq0.false
    (top_inside _ _ c.requires.walk c.if-self-eq0.false (g.met.M.TxRead.seen c.args.memory.now))
    c.in_ok-descend.ensures.answer
