use Rattle.judge_object.proofs.Levels.{sequential_is_serializable}
use Rattle.judge_object.proofs.laws.sequentially_consistent_histories_are_serializable.Goals as goal

pub returns : goal.returns
returns g c = sequential_is_serializable (g.M.Object.rules)
