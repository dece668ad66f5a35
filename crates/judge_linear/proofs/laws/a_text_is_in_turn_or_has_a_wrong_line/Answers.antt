use Rattle.judge_linear.proofs.WrongLines.{wrong_or_in_turn}
use Rattle.judge_linear.proofs.laws.a_text_is_in_turn_or_has_a_wrong_line.Goals as goal

pub returns : goal.returns
returns c = wrong_or_in_turn
