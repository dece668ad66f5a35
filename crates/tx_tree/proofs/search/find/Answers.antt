use Rattle.std.proofs.Common.{arith, refl, ap, None, ◌∙◌, ℕ, ◌+◌}
use Rattle.tx_tree.proofs.Spots.{descent_start, descent_leads, descent_left, descent_right, found_none, found_here}
use Rattle.tx_tree.proofs.Spots.{found_deep}
use Rattle.tx_tree.proofs.search.find.Goals.{then-key-found, else-key-found}
use Rattle.tx_tree.proofs.search.find.Goals as goal

pub loop-init : goal.loop-init
loop-init g c = record { origin = refl; way = (None, descent_start _ _ _ _ c.requires.table) }

pub load_node-requires : goal.load_node-requires
load_node-requires g c = record {
  leads = descent_leads _ _ _
      _ _ _ _ _ c.requires.table c.loop.invariant.way.1 (g.met.M.TxRead.seen c.loop.memory);
}

pub returns-then-node-eq0-clause-answer : goal.returns-then-node-eq0-clause-answer
returns-then-node-eq0-clause-answer g c = found_none _ _ _ _ _ _ _ _ _ c.loop.invariant.way.1
    c.in_ok-node.ensures.answer c.if-node-eq0.true

pub returns-then-found-key-clause-answer : goal.returns-then-found-key-clause-answer
returns-then-found-key-clause-answer g c = found_here _ _ _ _ _ _ _ _ _ _ _ c.loop.invariant.way.1
    c.in_ok-node.ensures.answer c.if-node-eq0.false c.in_ok-found.ensures.answer c.if-found-key.true

pub loop-preserved : goal.loop-preserved
loop-preserved g c = record {
  origin = c.in_ok-found.ensures.origin ∙ (c.in_ok-node.ensures.origin ∙ c.loop.invariant.origin);
  way = elim c.if-key-found.branch [
    | then-key-found w ↦ (
      _,
      descent_left _ _ _ _ _ _ _ _ _ _ _ _ _ c.loop.invariant.way.1 c.in_ok-node.ensures.answer
          c.if-node-eq0.false c.in_ok-found.ensures.answer (ap (λ (x : ℕ). c.in_ok-node.node + x) w.side-is)
          w.if-key-found.true,
    )
    | else-key-found w ↦ (
      _,
      descent_right _ _ _ _ _ _ _ _ _ _ _ _ _ c.loop.invariant.way.1 c.in_ok-node.ensures.answer
          c.if-node-eq0.false c.in_ok-found.ensures.answer (ap (λ (x : ℕ). c.in_ok-node.node + x) w.side-is)
          (omega (arith, w.if-key-found.false, c.if-found-key.false)),
    )
  ];
}

pub returns-clause-answer : goal.returns-clause-answer
returns-clause-answer g c = found_deep _ _ _ _ _ _ _ c.loop.invariant.way.1 (omega (arith, c.loop-test.false))
