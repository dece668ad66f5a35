use Rattle.judge_object.proofs.Levels.{linearizable_is_sequential}
use Rattle.judge_object.proofs.laws.linearizable_histories_are_sequentially_consistent.Goals as goal

pub returns : goal.returns
returns g c = linearizable_is_sequential (g.M.Object.rules)
