use Rattle.judge_reservations.proofs.CutParts.{part_of_cut}
use Rattle.judge_reservations.proofs.laws.the_part_of_a_cut_is_the_cut_of_the_part.Goals as goal

pub returns : goal.returns
returns c = part_of_cut
