use Rattle.std.proofs.Common.{◌≡◌, length, refl, arith, ◌∙◌}
use Rattle.tx_tree.proofs.Walks.{going_start, going_leads, going_room, going_down, descended}
use Rattle.tx_tree.proofs.walk.Walk.descend.Goals as goal

pub loop-node-init : goal.loop-node-init
loop-node-init g c = record { origin = refl; going = going_start _ _ _ c.requires.link }

pub load_node-requires : goal.load_node-requires
load_node-requires g c = record { leads = going_leads _ _ _ _ _ _ c.requires.link c.loop-node.invariant.going }

pub returns-then-node-eq0-clause-answer : goal.returns-then-node-eq0-clause-answer
returns-then-node-eq0-clause-answer g c = descended _ _ _ _ _ _ _ _ c.loop-node.invariant.going
    c.in_ok-node.ensures.answer c.if-node-eq0.true

pub offset_bounds-self-self : goal.offset_bounds-self-self
offset_bounds-self-self g c =
    let l = going_room _ _ _ _ _ _ _ _ c.requires.link c.loop-node.invariant.going c.in_ok-node.ensures.answer
    c.if-node-eq0.false (g.met.M.TxRead.seen c.load_node.new.memory) in
    omega arith

pub bounds-self-self : goal.bounds-self-self
bounds-self-self g c =
    let l = going_room _ _ _ _ _ _ _ _ c.requires.link c.loop-node.invariant.going c.in_ok-node.ensures.answer
    c.if-node-eq0.false (g.met.M.TxRead.seen c.load_node.new.memory) in
    omega arith

pub overflow_add-self : goal.overflow_add-self
overflow_add-self g c =
    let l = going_room _ _ _ _ _ _ _ _ c.requires.link c.loop-node.invariant.going c.in_ok-node.ensures.answer
    c.if-node-eq0.false (g.met.M.TxRead.seen c.load_node.new.memory) in
    omega arith

pub loop-node-smaller : goal.loop-node-smaller
loop-node-smaller g c =
    let l = going_room _ _ _ _ _ _ _ _ c.requires.link c.loop-node.invariant.going c.in_ok-node.ensures.answer
    c.if-node-eq0.false (g.met.M.TxRead.seen c.load_node.new.memory) in
    omega arith

pub loop-node-preserved : goal.loop-node-preserved
loop-node-preserved g c =
    let l = going_room _ _ _ _ _ _ _ _ c.requires.link c.loop-node.invariant.going c.in_ok-node.ensures.answer
    c.if-node-eq0.false (g.met.M.TxRead.seen c.load_node.new.memory) in
    let size : length c.loop-node.self.nodes ≡ 40 = omega arith in
    record {
      origin = c.in_ok-node.ensures.origin ∙ c.loop-node.invariant.origin;
      going = going_down _ _ _ _ _ _ _ _ c.loop-node.invariant.going c.in_ok-node.ensures.answer c.if-node-eq0.false
          size l;
    }
