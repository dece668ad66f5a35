use Rattle.stm_region.proofs.Laws.{agrees}
use Rattle.stm_region.proofs.rule.reads_are_of_one_version.Goals as goal

pub returns : goal.returns
returns g c o s h = agrees g.L.Law.fits g.L.Law.lawful o s h
