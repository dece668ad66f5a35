use Rattle.judge_object.proofs.Cuts.{cut_linearizable}
use Rattle.judge_object.proofs.laws.a_cut_of_a_linearizable_history_is_linearizable.Goals as goal

pub returns : goal.returns
returns g c = cut_linearizable (g.M.Object.rules)
