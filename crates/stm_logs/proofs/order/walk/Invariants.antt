use Rattle.std.proofs.Common.{◌≡◌, ◌-◌}
use Rattle.stm_logs.specs.Nodes.{at}
use Rattle.stm_logs.specs.Order.{IsBelow, least_after}
use Rattle.stm_logs.proofs.order.walk.Given as goal

abbrev pub invariant-loop-node : goal.invariant-loop-node
invariant-loop-node g l = record {
  below : IsBelow l.nodes.list l.nodes.count l.rank l.before;
  next_is : l.next ≡ (at l.nodes.list l.before).next;
}

abbrev pub decreases-loop-node : goal.decreases-loop-node
decreases-loop-node g l = l.rank - least_after l.nodes.list l.before
