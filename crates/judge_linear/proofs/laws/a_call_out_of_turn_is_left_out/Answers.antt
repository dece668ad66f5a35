use Rattle.judge_linear.proofs.WrongLines.{out_of_turn_is_left_out}
use Rattle.judge_linear.proofs.laws.a_call_out_of_turn_is_left_out.Goals as goal

pub returns : goal.returns
returns c = out_of_turn_is_left_out
