use Rattle.std.proofs.Common.{◌≡◌, ◌≤◌}
use Rattle.test_stm.proofs.words.has_words.Given as goal

abbrev pub invariant-loop-addr : goal.invariant-loop-addr
invariant-loop-addr g l = record {
  origin : g.M.TxRead.origin l.memory ≡ g.M.TxRead.origin l.initial.memory;
  size : l.size ≤ (g.M.TxRead.view l.memory).size;
}
