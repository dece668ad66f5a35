use Rattle.judge_object.proofs.Cuts.{cut_of_cut}
use Rattle.judge_object.proofs.laws.a_cut_of_a_cut_is_a_cut.Goals as goal

pub returns : goal.returns
returns g c = cut_of_cut
