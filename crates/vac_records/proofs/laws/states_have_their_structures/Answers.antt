use Rattle.vac_records.proofs.Bridges.{pool_there, hand_there, table_there, list_there, bill_there}
use Rattle.vac_records.proofs.laws.states_have_their_structures.Goals as goal

pub returns : goal.returns
returns c = record { pool = pool_there; hand = hand_there; table = table_there; list = list_there; bill = bill_there }
