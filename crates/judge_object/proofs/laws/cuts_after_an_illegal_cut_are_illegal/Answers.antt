use Rattle.judge_object.proofs.Cuts.{later_cuts_illegal}
use Rattle.judge_object.proofs.laws.cuts_after_an_illegal_cut_are_illegal.Goals as goal

pub returns : goal.returns
returns g c = later_cuts_illegal (g.M.Object.rules)
