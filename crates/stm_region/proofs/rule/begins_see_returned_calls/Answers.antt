use Rattle.stm_region.proofs.Freshness.{every_begin_is_fresh}
use Rattle.stm_region.proofs.rule.begins_see_returned_calls.Goals as goal

pub returns : goal.returns
returns g c = every_begin_is_fresh g.L.Law.fits g.L.Law.lawful
