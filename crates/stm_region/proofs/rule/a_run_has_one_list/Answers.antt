use Rattle.stm_region.proofs.Extending.{every_run_has_one_list}
use Rattle.stm_region.proofs.rule.a_run_has_one_list.Goals as goal

pub returns : goal.returns
returns g c = every_run_has_one_list g.L.Law.fits g.L.Law.lawful
