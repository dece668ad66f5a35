use Rattle.std.proofs.Common.{◌≡◌, take}
use Rattle.vac_records.specs.InMemory.{HoldsState}
use Rattle.vac_tasks.specs.Runs.{Runs, changed}
use Rattle.vac_tasks.proofs.update.update.Given as goal

abbrev pub invariant-loop-i : goal.invariant-loop-i
invariant-loop-i g l = record {
  origin : g.M.TxRead.origin l.memory ≡ g.M.TxRead.origin l.initial.memory;
  state : HoldsState (g.M.TxRead.view l.memory);
  runs : Runs (g.M.TxRead.view l.initial.memory) (g.M.TxRead.view l.memory) (changed (take l.i l.changes)) l.refused;
}
