use Rattle.stm_region.proofs.Timing.{every_run_keeps_real_time}
use Rattle.stm_region.proofs.rule.runs_keep_real_time.Goals as goal

pub returns : goal.returns
returns g c = every_run_keeps_real_time g.L.Law.fits g.L.Law.lawful
