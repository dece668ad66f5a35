use Rattle.stm_core.proofs.Causing.{every_list_is_progressive}
use Rattle.stm_core.proofs.causation.every_conflict_has_a_cause.Goals as goal

pub returns : goal.returns
returns g c = every_list_is_progressive g.L.Law.lawful
