use Rattle.stm_region.proofs.Laws.{takes_all}
use Rattle.stm_region.proofs.rule.gathering_keeps_all_grants.Goals as goal

pub returns : goal.returns
returns g c o s h = takes_all g.L.Law.fits g.L.Law.lawful o s h
