use Rattle.stm_runs.proofs.RunsOpaque.{every_run_is_opaque}
use Rattle.stm_runs.proofs.opacity.runs_are_opaque.Goals as goal

pub returns : goal.returns
returns g c = every_run_is_opaque g.L.Law.fits g.L.Law.lawful c.opaque.ensures
