use Rattle.judge_linear.proofs.Lawful.{illegal_part_means_none}
use Rattle.judge_linear.proofs.laws.an_illegal_part_means_no_order.Goals as goal

pub returns : goal.returns
returns c = illegal_part_means_none c.illegal_parts_show_illegal_histories.ensures
