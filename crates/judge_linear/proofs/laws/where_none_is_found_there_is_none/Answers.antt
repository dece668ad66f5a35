use Rattle.judge_linear.proofs.Lawful.{no_order_means_none}
use Rattle.judge_linear.proofs.laws.where_none_is_found_there_is_none.Goals as goal

pub returns : goal.returns
returns c = no_order_means_none
