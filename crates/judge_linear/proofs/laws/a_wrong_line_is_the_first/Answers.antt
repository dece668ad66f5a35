use Rattle.judge_linear.proofs.WrongLines.{wrong_is_first}
use Rattle.judge_linear.proofs.laws.a_wrong_line_is_the_first.Goals as goal

pub returns : goal.returns
returns c = wrong_is_first
