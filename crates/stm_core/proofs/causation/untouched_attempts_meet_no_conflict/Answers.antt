use Rattle.stm_core.proofs.Touching.{untouched_meets_none}
use Rattle.stm_core.proofs.causation.untouched_attempts_meet_no_conflict.Goals as goal

pub returns : goal.returns
returns g c = untouched_meets_none g.L.Law.lawful
