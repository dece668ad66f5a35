use Rattle.std.proofs.Common.{arith}
use Rattle.std.proofs.lemmas.Grind.{common_steps}
use Rattle.std.proofs.Output.{has_written_of_eq}
use Rattle.judge_linear.proofs.found.IllegalPartDisplay.fmt.Goals as goal

pub returns-clause-writes : goal.returns-clause-writes
returns-clause-writes g c plain ok =
    has_written_of_eq _ _ _ _ _ (grind (arith, common_steps)) (c.write.ensures.writes plain ok)
