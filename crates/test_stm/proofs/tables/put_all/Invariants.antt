use Rattle.std.proofs.Common.{◌≡◌}
use Rattle.test_stm.specs.Laws.{HoldsTable}
use Rattle.test_stm.proofs.tables.put_all.Given as goal

abbrev pub invariant-loop-i : goal.invariant-loop-i
invariant-loop-i g l = record {
  origin : g.M.TxRead.origin l.memory ≡ g.M.TxRead.origin l.initial.memory;
  table : HoldsTable (g.M.TxRead.view l.memory) l.count;
}
