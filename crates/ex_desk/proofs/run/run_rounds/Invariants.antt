use Rattle.std.proofs.Common.{◌-◌}
use Rattle.ex_desk.specs.Run.{AreOn}
use Rattle.ex_desk.proofs.run.run_rounds.Given as goal

abbrev pub invariant-rounds : goal.invariant-rounds
invariant-rounds g l = AreOn l.fn.settings l.open_desks

abbrev pub decreases-rounds : goal.decreases-rounds
decreases-rounds g l = l.fn.settings.rounds - l.open_desks.rounds
