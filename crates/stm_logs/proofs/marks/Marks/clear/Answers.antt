use Rattle.stm_logs.specs.declared.marks.TheConstants.{MARKS}
use Rattle.stm_logs.proofs.MarkLemmas.{unmarked}
use Rattle.stm_logs.proofs.marks.Marks.clear.Goals as goal

pub returns : goal.returns
returns c = λ a. unmarked MARKS a
