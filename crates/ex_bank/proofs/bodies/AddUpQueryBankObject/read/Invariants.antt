use Rattle.std.proofs.Common.{◌≡◌}
use Rattle.ex_bank.proofs.Steps.{Counted}
use Rattle.ex_bank.proofs.bodies.AddUpQueryBankObject.read.Given as goal

abbrev pub invariant-loop-account : goal.invariant-loop-account
invariant-loop-account g l = record {
  origin : g.M.TxRead.origin l.memory ≡ g.M.TxRead.origin l.fn.memory;
  counted : Counted (g.M.TxRead.view l.fn.memory) (g.M.TxRead.view l.memory) l.account l.total;
}
