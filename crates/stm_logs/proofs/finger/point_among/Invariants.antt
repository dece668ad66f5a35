use Rattle.std.proofs.Common.{◌≡◌}
use Rattle.stm_logs.specs.Order.{OnlyFingers}
use Rattle.stm_logs.proofs.finger.point_among.Given as goal

abbrev pub invariant-loop-scale : goal.invariant-loop-scale
invariant-loop-scale g l = record {
  same : OnlyFingers l.fn.nodes.list l.nodes.list;
  count : l.nodes.count ≡ l.fn.nodes.count;
}
