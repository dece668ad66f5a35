use Rattle.judge_reservations.proofs.FinerParts.{part_of_part}
use Rattle.judge_reservations.proofs.laws.the_part_of_a_part_is_the_part.Goals as goal

pub returns : goal.returns
returns c = part_of_part
