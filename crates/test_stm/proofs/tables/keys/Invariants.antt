use Rattle.std.proofs.Common.{◌≡◌}
use Rattle.test_stm.proofs.Walked.{TableWalk}
use Rattle.test_stm.proofs.tables.keys.Given as goal

abbrev pub invariant-loop-i : goal.invariant-loop-i
invariant-loop-i g l = record {
  origin : g.M.TxRead.origin l.memory ≡ g.M.TxRead.origin l.initial.memory;
  walk : TableWalk (g.M.TxRead.view l.memory) l.count l.walk;
}
