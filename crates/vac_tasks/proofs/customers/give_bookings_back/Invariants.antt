use Rattle.std.proofs.Common.{◌≡◌, ◌-◌}
use Rattle.vac_records.specs.InMemory.{HoldsState}
use Rattle.vac_tasks.specs.Entries.{CustomerIsAt}
use Rattle.vac_tasks.specs.CustomerSteps.{GivenBack}
use Rattle.vac_tasks.proofs.customers.give_bookings_back.Given as goal

abbrev pub invariant-loop : goal.invariant-loop
invariant-loop g l = record {
  origin : g.M.TxRead.origin l.memory ≡ g.M.TxRead.origin l.fn.memory;
  state : HoldsState (g.M.TxRead.view l.memory);
  customer : CustomerIsAt (g.M.TxRead.view l.memory) l.fn.who.customer l.fn.who.owner;
  given : GivenBack (g.M.TxRead.view l.fn.memory) (g.M.TxRead.view l.memory) l.fn.who.customer l.fn.who.owner
      (262144 - l.counter);
}
