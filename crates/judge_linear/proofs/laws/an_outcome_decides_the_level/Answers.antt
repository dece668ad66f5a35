use Rattle.judge_linear.proofs.Decided.{outcome_decides}
use Rattle.judge_linear.proofs.laws.an_outcome_decides_the_level.Goals as goal

pub returns : goal.returns
returns c = outcome_decides c.illegal_parts_show_illegal_histories.ensures
