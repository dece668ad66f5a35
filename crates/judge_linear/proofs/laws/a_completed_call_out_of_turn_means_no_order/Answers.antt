use Rattle.judge_linear.proofs.WrongLines.{out_of_turn_means_none}
use Rattle.judge_linear.proofs.laws.a_completed_call_out_of_turn_means_no_order.Goals as goal

pub returns : goal.returns
returns c = out_of_turn_means_none
