use Rattle.vac_records.proofs.Single.{none_left, some_left}
use Rattle.vac_records.proofs.laws.capacity_is_a_count_of_blocks.Goals as goal

pub returns : goal.returns
returns c = record { full = none_left; room = some_left }
