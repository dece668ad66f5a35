use Rattle.judge_object.proofs.Levels.{level_is_relaxed}
use Rattle.judge_object.proofs.laws.a_level_is_linearizability_without_its_order.Goals as goal

pub returns : goal.returns
returns g c = level_is_relaxed (g.M.Object.rules)
