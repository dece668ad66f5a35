use Rattle.stm_core.proofs.ConflictExamples.{worked_conflicts}
use Rattle.stm_core.proofs.causation.worked_conflicts_have_their_causes.Goals as goal

pub returns : goal.returns
returns c = worked_conflicts
