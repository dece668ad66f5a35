use Rattle.stm_region.proofs.Extending.{every_list_goes_on}
use Rattle.stm_region.proofs.rule.every_list_goes_on.Goals as goal

pub returns : goal.returns
returns g c = every_list_goes_on g.L.Law.fits g.L.Law.lawful
