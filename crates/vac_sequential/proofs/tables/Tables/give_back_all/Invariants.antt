use Rattle.std.proofs.Common.{◌≡◌, length}
use Rattle.std.specs.FinMap as map
use Rattle.vac_model.specs.Step.{give_back_all}
use Rattle.vac_model.specs.Fits.{CanGiveBack}
use Rattle.vac_sequential.proofs.tables.Tables.give_back_all.Given as goal

abbrev pub invariant-loop-kind : goal.invariant-loop-kind
invariant-loop-kind l = record {
  rest : give_back_all l.self (map.entries l.bookings) ≡ give_back_all l.initial.self (map.entries l.initial.bookings);
  can : CanGiveBack l.self (map.entries l.bookings);
}

abbrev pub decreases-loop-kind : goal.decreases-loop-kind
decreases-loop-kind l = length (map.entries l.bookings)
