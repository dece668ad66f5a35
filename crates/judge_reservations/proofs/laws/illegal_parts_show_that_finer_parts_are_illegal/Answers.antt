use Rattle.judge_reservations.proofs.FinerParts.{finer_illegal}
use Rattle.judge_reservations.proofs.laws.illegal_parts_show_that_finer_parts_are_illegal.Goals as goal

pub returns : goal.returns
returns c = finer_illegal
