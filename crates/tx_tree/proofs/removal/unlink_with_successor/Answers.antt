use Rattle.std.proofs.Common.{arith}
use Rattle.tx_alloc.specs.Steps.{kept_both}
use Rattle.tx_tree.proofs.Lowering.{low_room}
use Rattle.tx_tree.proofs.NextViews.{both_deep, both_room, both_link, has_span, next_leads, low_link, nexting}
use Rattle.tx_tree.proofs.NextViews.{next_colour, next_unlinked_red, next_has_loose, next_unlinked_black}
use Rattle.tx_tree.proofs.removal.unlink_with_successor.Goals as goal

pub overflow_add-depth : goal.overflow_add-depth
overflow_add-depth g c =
    let b = both_room _ _ _ _ c.requires.both (g.met.M.TxRead.seen c.args.memory.now) in
    omega (arith, c.requires.both.small)

pub set-requires : goal.set-requires
set-requires g c =
    let deep = both_deep _ _ _ _ c.requires.both (g.met.M.TxRead.seen c.args.memory.now) in
    omega arith

pub seek_successor-requires : goal.seek_successor-requires
seek_successor-requires g c =
    let deep = both_deep _ _ _ _ c.requires.both (g.met.M.TxRead.seen c.args.memory.now) in
    record { span = rw c.set.ensures.links (has_span _ _ _ _ c.requires.both deep) }

pub overflow_add-successor : goal.overflow_add-successor
overflow_add-successor g c =
    let deep = both_deep _ _ _ _ c.requires.both (g.met.M.TxRead.seen c.args.memory.now) in
    let span = has_span _ _ _ _ c.requires.both deep in
    let r = low_room _ _ _ _ _ _ _ span (rw c.set.ensures.links at c.in_ok-last.ensures.answer).lowering
    (g.met.M.TxRead.seen c.seek_successor.new.memory) in
    omega (arith, r.1, c.requires.both.small)

pub load_node-requires : goal.load_node-requires
load_node-requires g c =
    let deep = both_deep _ _ _ _ c.requires.both (g.met.M.TxRead.seen c.args.memory.now) in
    let span = has_span _ _ _ _ c.requires.both deep in
    record {
      leads = next_leads _ _ _ _ _ _ _ span (rw c.set.ensures.links at
          c.in_ok-last.ensures.answer).lowering (g.met.M.TxRead.seen c.seek_successor.new.memory);
    }

pub is_red-requires-clause-room : goal.is_red-requires-clause-room
is_red-requires-clause-room g c =
    let deep = both_deep _ _ _ _ c.requires.both (g.met.M.TxRead.seen c.args.memory.now) in
    let span = has_span _ _ _ _ c.requires.both deep in
    let r = low_room _ _ _ _ _ _ _ span (rw c.set.ensures.links at c.in_ok-last.ensures.answer).lowering
    (g.met.M.TxRead.seen c.seek_successor.new.memory) in
    λ ne. omega (
      arith,
      r.1,
      c.in_ok-last.ensures.answer.lowering.kept.size,
      c.in_ok-child.ensures.answer.loaded.kept.size,
    )

pub store-requires : goal.store-requires
store-requires g c =
    let deep = both_deep _ _ _ _ c.requires.both (g.met.M.TxRead.seen c.args.memory.now) in
    let span = has_span _ _ _ _ c.requires.both deep in
    let l = low_link _ _ _ _ _ _ _ span (rw c.set.ensures.links at c.in_ok-last.ensures.answer).lowering
    (g.met.M.TxRead.seen c.seek_successor.new.memory) in
    omega (
      arith,
      c.in_ok-last.ensures.answer.lowering.kept.size,
      c.in_ok-child.ensures.answer.loaded.kept.size,
      c.in_ok-successor_red.ensures.answer.kept.size,
    )

pub transplant-requires-clause-link : goal.transplant-requires-clause-link
transplant-requires-clause-link g c =
    let l = both_link _ _ _ _ c.requires.both (g.met.M.TxRead.seen c.args.memory.now) in
    omega (
      arith,
      c.in_ok-last.ensures.answer.lowering.kept.size,
      c.in_ok-child.ensures.answer.loaded.kept.size,
      c.in_ok-successor_red.ensures.answer.kept.size,
      c.in_ok-store.ensures.answer.kept.size,
    )

pub transplant-requires-clause-node : goal.transplant-requires-clause-node
transplant-requires-clause-node g c =
    let b = both_room _ _ _ _ c.requires.both (g.met.M.TxRead.seen c.args.memory.now) in
    omega (
      arith,
      c.in_ok-last.ensures.answer.lowering.kept.size,
      c.in_ok-child.ensures.answer.loaded.kept.size,
      c.in_ok-successor_red.ensures.answer.kept.size,
      c.in_ok-store.ensures.answer.kept.size,
    )

pub transplant-requires-clause-block : goal.transplant-requires-clause-block
transplant-requires-clause-block g c =
    let deep = both_deep _ _ _ _ c.requires.both (g.met.M.TxRead.seen c.args.memory.now) in
    let span = has_span _ _ _ _ c.requires.both deep in
    let r = low_room _ _ _ _ _ _ _ span (rw c.set.ensures.links at c.in_ok-last.ensures.answer).lowering
    (g.met.M.TxRead.seen c.seek_successor.new.memory) in
    omega (
      arith,
      r.1,
      c.in_ok-last.ensures.answer.lowering.kept.size,
      c.in_ok-child.ensures.answer.loaded.kept.size,
      c.in_ok-successor_red.ensures.answer.kept.size,
      c.in_ok-store.ensures.answer.kept.size,
    )

pub overflow_add-successor-2 : goal.overflow_add-successor-2
overflow_add-successor-2 g c =
    let deep = both_deep _ _ _ _ c.requires.both (g.met.M.TxRead.seen c.args.memory.now) in
    let span = has_span _ _ _ _ c.requires.both deep in
    let r = low_room _ _ _ _ _ _ _ span (rw c.set.ensures.links at c.in_ok-last.ensures.answer).lowering
    (g.met.M.TxRead.seen c.seek_successor.new.memory) in
    omega (arith, r.1, c.requires.both.small)

pub returns-then-successor_red-clause-answer : goal.returns-then-successor_red-clause-answer
returns-then-successor_red-clause-answer g c =
    let deep = both_deep _ _ _ _ c.requires.both (g.met.M.TxRead.seen c.args.memory.now) in
    let span = has_span _ _ _ _ c.requires.both deep in
    let r = low_room _ _ _ _ _ _ _ span (rw c.set.ensures.links at c.in_ok-last.ensures.answer).lowering
    (g.met.M.TxRead.seen c.seek_successor.new.memory) in
    next_unlinked_red _ _ _ _ _ _ _ _ _ _ (nexting _ _ _ _ _ _ _ _ _ _ _ _ _ _ c.requires.both deep
    (rw c.set.ensures.links at c.in_ok-last.ensures.answer) c.in_ok-child.ensures.answer
    c.in_ok-successor_red.ensures.answer (rw c.link.ensures at c.in_ok-store.ensures.answer)
    (rw c.link-upper.ensures at c.in_ok-transplant.ensures.answer))
    (next_colour _ _ _ _ _ _ _ _ _ _ _ _ (omega (arith, r.0))
    (rw c.set.ensures.links at c.in_ok-last.ensures.answer) c.in_ok-child.ensures.answer
    c.in_ok-successor_red.ensures.answer (kept_both _ _ _ c.in_ok-store.ensures.answer.kept
    c.in_ok-transplant.ensures.answer.kept)) c.if-successor_red.true

pub add_black-requires : goal.add_black-requires
add_black-requires g c =
    let deep = both_deep _ _ _ _ c.requires.both (g.met.M.TxRead.seen c.args.memory.now) in
    let span = has_span _ _ _ _ c.requires.both deep in
    let r = low_room _ _ _ _ _ _ _ span (rw c.set.ensures.links at c.in_ok-last.ensures.answer).lowering
    (g.met.M.TxRead.seen c.seek_successor.new.memory) in
    record {
      loose = rw c.set-2.ensures.links (next_has_loose _ _ _ _ _ _ _ _ _ _ c.requires.both
          (nexting _ _ _ _ _ _ _ _ _ _ _ _ _ _ c.requires.both deep
          (rw c.set.ensures.links at c.in_ok-last.ensures.answer) c.in_ok-child.ensures.answer
          c.in_ok-successor_red.ensures.answer (rw c.link.ensures at c.in_ok-store.ensures.answer)
          (rw c.link-upper.ensures at c.in_ok-transplant.ensures.answer))
          (next_colour _ _ _ _ _ _ _ _ _ _ _ _ (omega (arith, r.0))
          (rw c.set.ensures.links at c.in_ok-last.ensures.answer) c.in_ok-child.ensures.answer
          c.in_ok-successor_red.ensures.answer (kept_both _ _ _ c.in_ok-store.ensures.answer.kept
          c.in_ok-transplant.ensures.answer.kept)) c.if-successor_red.false);
    }

pub returns-clause-answer : goal.returns-clause-answer
returns-clause-answer g c =
    let deep = both_deep _ _ _ _ c.requires.both (g.met.M.TxRead.seen c.args.memory.now) in
    let span = has_span _ _ _ _ c.requires.both deep in
    let r = low_room _ _ _ _ _ _ _ span (rw c.set.ensures.links at c.in_ok-last.ensures.answer).lowering
    (g.met.M.TxRead.seen c.seek_successor.new.memory) in
    next_unlinked_black _ _ _ _ _ _ _ _ _ _ _ (nexting _ _ _ _ _ _ _ _ _ _ _ _ _ _ c.requires.both deep
    (rw c.set.ensures.links at c.in_ok-last.ensures.answer) c.in_ok-child.ensures.answer
    c.in_ok-successor_red.ensures.answer (rw c.link.ensures at c.in_ok-store.ensures.answer)
    (rw c.link-upper.ensures at c.in_ok-transplant.ensures.answer))
    (next_colour _ _ _ _ _ _ _ _ _ _ _ _ (omega (arith, r.0))
    (rw c.set.ensures.links at c.in_ok-last.ensures.answer) c.in_ok-child.ensures.answer
    c.in_ok-successor_red.ensures.answer (kept_both _ _ _ c.in_ok-store.ensures.answer.kept
    c.in_ok-transplant.ensures.answer.kept)) c.if-successor_red.false
    (rw c.set-2.ensures.links at c.in_ok-add_black.ensures.answer)

pub set-requires-2 : goal.set-requires-2
set-requires-2 g c =
    let deep = both_deep _ _ _ _ c.requires.both (g.met.M.TxRead.seen c.args.memory.now) in
    omega arith

pub overflow_add-node : goal.overflow_add-node
overflow_add-node g c =
    let b = both_room _ _ _ _ c.requires.both (g.met.M.TxRead.seen c.args.memory.now) in
    omega (arith, c.requires.both.small)
