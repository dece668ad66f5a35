use Rattle.stm_region.proofs.Laws.{is_listed}
use Rattle.stm_region.proofs.rule.running_threads_are_a_list.Goals as goal

pub returns : goal.returns
returns g c o s h = is_listed g.L.Law.fits g.L.Law.lawful o s h
