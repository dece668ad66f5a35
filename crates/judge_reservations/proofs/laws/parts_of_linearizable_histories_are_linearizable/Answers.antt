use Rattle.judge_reservations.proofs.Whole.{parts_linearizable}
use Rattle.judge_reservations.proofs.laws.parts_of_linearizable_histories_are_linearizable.Goals as goal

pub returns : goal.returns
returns c = parts_linearizable
