use Rattle.vac_records.proofs.Single.{one_state, one_shape, same_words}
use Rattle.vac_records.proofs.laws.one_state_for_a_memory.Goals as goal

pub returns : goal.returns
returns c = record { one = one_state; shape = one_shape; words = same_words }
