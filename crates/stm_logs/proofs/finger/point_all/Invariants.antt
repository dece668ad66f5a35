use Rattle.std.proofs.Common.{◌≡◌}
use Rattle.stm_logs.specs.Order.{OnlyFingers}
use Rattle.stm_logs.proofs.finger.point_all.Given as goal

abbrev pub invariant-loop-e : goal.invariant-loop-e
invariant-loop-e g l = record {
  same : OnlyFingers l.fn.nodes.list l.nodes.list;
  count : l.nodes.count ≡ l.fn.nodes.count;
}
