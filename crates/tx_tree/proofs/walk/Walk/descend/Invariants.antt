use Rattle.std.proofs.Common.{◌≡◌, ◌-◌}
use Rattle.tx_tree.proofs.Walks.{Going}
use Rattle.tx_tree.proofs.walk.Walk.descend.Given as goal

abbrev pub invariant-loop-node : goal.invariant-loop-node
invariant-loop-node g l = record {
  origin : g.M.TxRead.origin l.memory ≡ g.M.TxRead.origin l.initial.memory;
  going : Going (g.M.TxRead.view l.initial.memory) (g.M.TxRead.view l.memory) l.initial.self l.fn.link l.self l.link;
}

abbrev pub decreases-loop-node : goal.decreases-loop-node
decreases-loop-node g l = 40 - l.self.depth
