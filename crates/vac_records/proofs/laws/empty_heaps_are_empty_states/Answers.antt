use Rattle.vac_records.proofs.Fresh.{fresh_state, spread_state}
use Rattle.vac_records.proofs.laws.empty_heaps_are_empty_states.Goals as goal

pub returns : goal.returns
returns c = record { fresh = fresh_state; spread = spread_state }
