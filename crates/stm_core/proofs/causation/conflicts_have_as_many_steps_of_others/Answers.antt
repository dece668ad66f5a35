use Rattle.stm_core.proofs.Touching.{conflicts_are_counted}
use Rattle.stm_core.proofs.causation.conflicts_have_as_many_steps_of_others.Goals as goal

pub returns : goal.returns
returns g c = conflicts_are_counted g.L.Law.lawful
