use Rattle.std.proofs.Common.{◌-◌}
use Rattle.ex_desk.specs.Desks.{asked, ServesTrips}
use Rattle.ex_desk.proofs.asking.serve.Given as goal

abbrev pub invariant-trips : goal.invariant-trips
invariant-trips l = ServesTrips l.settings l.fn.desk l.desk l.fn.caller l.caller

abbrev pub decreases-trips : goal.decreases-trips
decreases-trips l = l.settings.trips - asked l.desk
