use Rattle.std.proofs.Common.{◌≡◌, take}
use Rattle.vac_records.specs.InMemory.{HoldsState}
use Rattle.vac_tasks.specs.Trips.{Chosen}
use Rattle.vac_tasks.proofs.trip.choose.Given as goal

abbrev pub invariant-loop-ask : goal.invariant-loop-ask
invariant-loop-ask g l = record {
  origin : g.M.TxRead.origin l.memory ≡ g.M.TxRead.origin l.initial.memory;
  state : HoldsState (g.M.TxRead.view l.memory);
  chosen : Chosen (g.M.TxRead.view l.initial.memory) (g.M.TxRead.view l.memory) (take l.ask-index l.asks) l.choices;
}
