use Rattle.stm_core.proofs.Examples.{worked_lists}
use Rattle.stm_core.proofs.theorem.worked_lists_have_their_records.Goals as goal

pub returns : goal.returns
returns c = worked_lists
