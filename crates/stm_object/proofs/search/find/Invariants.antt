use Rattle.std.proofs.Common.{◌≡◌, None}
use Rattle.stm_object.specs.Search.{Searched}
use Rattle.stm_object.proofs.search.find.Given as goal

abbrev pub invariant-loop-address : goal.invariant-loop-address
invariant-loop-address g l = record {
  origin : g.M.TxRead.origin l.memory ≡ g.M.TxRead.origin l.fn.memory;
  none : Searched (g.M.TxRead.view l.fn.memory) (g.M.TxRead.view l.memory) l.fn.from l.address l.fn.word None;
}
