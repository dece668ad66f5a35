use Rattle.std.proofs.Common.{arith}
use Rattle.tx_tree.proofs.Ways.{way_node, way_up, way_room, way_beside}
use Rattle.tx_tree.proofs.Lifting.{short_way, black_seen, has_lift, stepped, red_seen, has_lift_red, stepped_red}
use Rattle.tx_tree.proofs.Lifting.{raised_leads}
use Rattle.tx_tree.proofs.mending.repair_black_at.Goals as goal

pub overflow_sub-side : goal.overflow_sub-side
overflow_sub-side g c =
    let n = way_node _ _ _ (short_way _ _ _ c.requires.short) c.requires.deep (g.met.M.TxRead.seen c.args.memory.now) in
    omega (arith, n.low_side, n.high_side, n.high)

pub load_node-requires : goal.load_node-requires
load_node-requires g c =
    record {
      leads = rw (c.parent-parent.ensures.node, c.parent-parent.ensures.side) (way_beside _ _ _
          (short_way _ _ _ c.requires.short) c.requires.deep (g.met.M.TxRead.seen c.args.memory.now));
    }

pub overflow_sub-side-then-sibling_red : goal.overflow_sub-side-then-sibling_red
overflow_sub-side-then-sibling_red g c =
    let n = way_node _ _ _ (short_way _ _ _ c.requires.short) c.requires.deep (g.met.M.TxRead.seen c.args.memory.now) in
    omega (arith, n.low_side, n.high_side, n.high)

pub rotate_and_recolour-requires-clause-link : goal.rotate_and_recolour-requires-clause-link
rotate_and_recolour-requires-clause-link g c =
    let r = way_room _ _ _ (way_up _ _ _ (short_way _ _ _ c.requires.short) c.requires.deep)
    (g.met.M.TxRead.seen c.args.memory.now) in
    omega (arith, c.in_ok-sibling.ensures.answer.loaded.kept.size, c.in_ok-sibling_red.ensures.answer.kept.size)

pub rotate_and_recolour-requires-clause-node : goal.rotate_and_recolour-requires-clause-node
rotate_and_recolour-requires-clause-node g c =
    let n = way_node _ _ _ (short_way _ _ _ c.requires.short) c.requires.deep (g.met.M.TxRead.seen c.args.memory.now) in
    omega (
      arith,
      n.low_side,
      n.high_side,
      n.high,
      c.in_ok-sibling.ensures.answer.loaded.kept.size,
      c.in_ok-sibling_red.ensures.answer.kept.size,
    )

pub rotate_and_recolour-requires-clause-side : goal.rotate_and_recolour-requires-clause-side
rotate_and_recolour-requires-clause-side g c =
    let n = way_node _ _ _ (short_way _ _ _ c.requires.short) c.requires.deep (g.met.M.TxRead.seen c.args.memory.now) in
    (omega (arith, n.low_side, n.high_side), omega (arith, n.low_side, n.high_side))

pub overflow_sub-side-then-sibling_red-2 : goal.overflow_sub-side-then-sibling_red-2
overflow_sub-side-then-sibling_red-2 g c =
    let n = way_node _ _ _ (short_way _ _ _ c.requires.short) c.requires.deep (g.met.M.TxRead.seen c.args.memory.now) in
    omega (arith, n.low_side, n.high_side, n.high)

pub load_node-requires-then-sibling_red : goal.load_node-requires-then-sibling_red
load_node-requires-then-sibling_red g c =
    record {
      leads = rw (c.parent-parent.ensures.node, c.parent-parent.ensures.side) (raised_leads _ _ _ _ _ _ _ _
          c.requires.short c.requires.deep (rw (
            c.parent-parent.ensures.node,
            c.parent-parent.ensures.side,
          ) at c.in_ok-sibling.ensures.answer) c.in_ok-sibling_red.ensures.answer
          c.if-sibling_red.true (rw (
            c.link-upper.ensures,
            c.parent-parent.ensures.node,
            c.parent-parent.ensures.side,
          ) at c.in_ok-rotate_and_recolour.ensures.answer)
          (g.met.M.TxRead.seen c.rotate_and_recolour.new.memory));
    }

pub repair_at_black_sibling-requires : goal.repair_at_black_sibling-requires
repair_at_black_sibling-requires g c =
    record {
      lift = rw (c.parent-parent.ensures.node, c.parent-parent.ensures.side) (has_lift_red _ _ _ _ _ _
          c.requires.short (red_seen _ _ _ _ _ _ _ _ _ _ c.requires.deep
          (rw (c.parent-parent.ensures.node, c.parent-parent.ensures.side) at c.in_ok-sibling.ensures.answer)
          c.in_ok-sibling_red.ensures.answer c.if-sibling_red.true
          (rw (
            c.link-upper.ensures,
            c.parent-parent.ensures.node,
            c.parent-parent.ensures.side,
          ) at c.in_ok-rotate_and_recolour.ensures.answer)
          (rw (c.parent-parent.ensures.node, c.parent-parent.ensures.side) at c.in_ok-inner.ensures.answer)));
    }

pub returns-then-sibling_red-clause-answer : goal.returns-then-sibling_red-clause-answer
returns-then-sibling_red-clause-answer g c =
    stepped_red _ _ _ _ _ _ _ _ (red_seen _ _ _ _ _ _ _ _ _ _ c.requires.deep
    (rw (c.parent-parent.ensures.node, c.parent-parent.ensures.side) at c.in_ok-sibling.ensures.answer)
    c.in_ok-sibling_red.ensures.answer c.if-sibling_red.true
    (rw (
      c.link-upper.ensures,
      c.parent-parent.ensures.node,
      c.parent-parent.ensures.side,
    ) at c.in_ok-rotate_and_recolour.ensures.answer)
    (rw (c.parent-parent.ensures.node, c.parent-parent.ensures.side) at c.in_ok-inner.ensures.answer))
    (rw (c.parent-parent.ensures.node, c.parent-parent.ensures.side) at c.in_ok-done.ensures.answer)

pub repair_at_black_sibling-requires-2 : goal.repair_at_black_sibling-requires-2
repair_at_black_sibling-requires-2 g c =
    record {
      lift = rw (
        c.link.ensures,
        c.parent-parent.ensures.node,
        c.parent-parent.ensures.side,
      ) (has_lift _ _ _ _ _ c.requires.short c.requires.deep
          (black_seen _ _ _ _ _ _ _ (rw (
            c.parent-parent.ensures.node,
            c.parent-parent.ensures.side,
          ) at c.in_ok-sibling.ensures.answer) c.in_ok-sibling_red.ensures.answer
          c.if-sibling_red.false));
    }

pub returns-clause-answer : goal.returns-clause-answer
returns-clause-answer g c =
    stepped _ _ _ _ _ _ _ c.requires.deep (black_seen _ _ _ _ _ _ _
    (rw (c.parent-parent.ensures.node, c.parent-parent.ensures.side) at c.in_ok-sibling.ensures.answer)
    c.in_ok-sibling_red.ensures.answer c.if-sibling_red.false)
    (rw (c.link.ensures, c.parent-parent.ensures.node, c.parent-parent.ensures.side) at
    c.in_ok-done-2.ensures.answer)
