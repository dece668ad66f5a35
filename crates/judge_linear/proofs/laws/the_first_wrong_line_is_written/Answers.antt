use Rattle.judge_linear.proofs.WrongLines.{first_wrong_is_written}
use Rattle.judge_linear.proofs.laws.the_first_wrong_line_is_written.Goals as goal

pub returns : goal.returns
returns c = first_wrong_is_written
