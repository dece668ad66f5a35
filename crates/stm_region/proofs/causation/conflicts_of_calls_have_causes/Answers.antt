use Rattle.stm_region.proofs.RunsCaused.{call_conflicts_have_causes}
use Rattle.stm_region.proofs.causation.conflicts_of_calls_have_causes.Goals as goal

pub returns : goal.returns
returns g c = call_conflicts_have_causes g.L.Law.lawful c.every_conflict_has_a_cause.ensures
