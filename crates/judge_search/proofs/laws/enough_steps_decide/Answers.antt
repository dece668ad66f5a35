use Rattle.judge_search.proofs.Deciding.{enough_steps_decide}
use Rattle.judge_search.proofs.laws.enough_steps_decide.Goals as goal

pub returns : goal.returns
returns g c = enough_steps_decide (g.M.Object.rules)
