use Rattle.std.proofs.Common.{refl}
use Rattle.load_run.proofs.Loads.{can_be_run, was_done}
use Rattle.load_run.proofs.load.Load.new.Goals as goal

pub returns-clause-arguments : goal.returns-clause-arguments
returns-clause-arguments g c = can_be_run c.args.settings.now _ _ _ c.len.ensures
    c.if-not-can_run.ensures (was_done _ _ refl)
