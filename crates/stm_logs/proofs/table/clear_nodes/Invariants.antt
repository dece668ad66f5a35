use Rattle.std.proofs.Common.{◌≡◌}
use Rattle.stm_logs.specs.Held.{Cleared}
use Rattle.stm_logs.proofs.table.clear_nodes.Given as goal

abbrev pub invariant-loop-e : goal.invariant-loop-e
invariant-loop-e g l = record {
  count : l.nodes.count ≡ l.fn.nodes.count;
  cleared : Cleared l.fn.nodes.list l.nodes.list l.fn.nodes.count l.e;
}
