use Rattle.std.proofs.Common.{arith}
use Rattle.tx_tree.proofs.RemoveViews.{left_leads, right_leads, here_of, has_both, removed_both, has_last_left}
use Rattle.tx_tree.proofs.RemoveViews.{has_last_right, removed_left, removed_right}
use Rattle.tx_tree.proofs.Inserting.{found}
use Rattle.tx_tree.proofs.removal.remove.Goals as goal

pub returns-then-node-eq0-clause-answer : goal.returns-then-node-eq0-clause-answer
returns-then-node-eq0-clause-answer g c = found _ _ _ _ _ _ _ _ c.in_ok-depth.ensures.answer c.if-node-eq0.true

pub overflow_add-node : goal.overflow_add-node
overflow_add-node g c = let r = c.in_ok-depth.ensures.answer.there c.if-node-eq0.false in
    omega (arith, r.1, c.requires.table.small, c.in_ok-depth.ensures.answer.seeking.kept.size)

pub overflow_add-node-2 : goal.overflow_add-node-2
overflow_add-node-2 g c = let r = c.in_ok-depth.ensures.answer.there c.if-node-eq0.false in
    omega (arith, r.1, c.requires.table.small, c.in_ok-depth.ensures.answer.seeking.kept.size)

pub load_node-requires : goal.load_node-requires
load_node-requires g c = record {
  leads = left_leads _ _ _ _
      _ _ _ c.requires.table c.in_ok-depth.ensures.answer c.if-node-eq0.false;
}

pub load_node-requires-2 : goal.load_node-requires-2
load_node-requires-2 g c = record {
  leads = right_leads _ _ _
      _ _ _ _ _ _ c.requires.table c.in_ok-depth.ensures.answer c.if-node-eq0.false c.in_ok-left.ensures.answer;
}

pub unlink-requires : goal.unlink-requires
unlink-requires g c = record {
  last = has_last_left _ _ _ _ _ _ _ _ _ c.requires.table (here_of _ _ _ _ _ _ _ _ _ _ _
      c.in_ok-depth.ensures.answer c.if-node-eq0.false c.in_ok-left.ensures.answer c.in_ok-right.ensures.answer)
      c.if-left-eq0.true;
}

pub returns-then-left-eq0-clause-answer : goal.returns-then-left-eq0-clause-answer
returns-then-left-eq0-clause-answer g c = removed_left _ _ _ _ _ _ _ _ _ _
    (here_of _ _ _ _ _ _ _ _ _ _ _ c.in_ok-depth.ensures.answer c.if-node-eq0.false c.in_ok-left.ensures.answer
    c.in_ok-right.ensures.answer) c.if-left-eq0.true c.in_ok-unlink.ensures.answer

pub unlink-requires-then-right-eq0 : goal.unlink-requires-then-right-eq0
unlink-requires-then-right-eq0 g c = record {
  last = has_last_right _ _ _ _ _ _ _ _ _ c.requires.table (here_of _ _ _ _
      _ _ _ _ _ _ _ c.in_ok-depth.ensures.answer c.if-node-eq0.false c.in_ok-left.ensures.answer
      c.in_ok-right.ensures.answer) c.if-right-eq0.true;
}

pub returns-then-right-eq0-clause-answer : goal.returns-then-right-eq0-clause-answer
returns-then-right-eq0-clause-answer g c = removed_right _ _ _ _ _ _ _ _ _ _
    (here_of _ _ _ _ _ _ _ _ _ _ _ c.in_ok-depth.ensures.answer c.if-node-eq0.false c.in_ok-left.ensures.answer
    c.in_ok-right.ensures.answer) c.if-right-eq0.true c.in_ok-unlink-2.ensures.answer

pub unlink_with_successor-requires : goal.unlink_with_successor-requires
unlink_with_successor-requires g c = record {
  both = has_both _ _ _ _ _ _ _ _ _ c.requires.table (here_of _ _ _ _ _ _ _
      _ _ _ _ c.in_ok-depth.ensures.answer c.if-node-eq0.false c.in_ok-left.ensures.answer c.in_ok-right.ensures.answer)
      c.if-right-eq0.false;
}

pub returns-clause-answer : goal.returns-clause-answer
returns-clause-answer g c = removed_both _ _ _ _ _ _ _ _ _ _
    (here_of _ _ _ _ _ _ _ _ _ _ _ c.in_ok-depth.ensures.answer c.if-node-eq0.false c.in_ok-left.ensures.answer
    c.in_ok-right.ensures.answer) c.if-right-eq0.false c.in_ok-unlink_with_successor.ensures.answer
