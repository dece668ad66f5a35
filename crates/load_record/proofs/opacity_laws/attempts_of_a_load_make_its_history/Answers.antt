use Rattle.load_record.proofs.Made.{made_their_history}
use Rattle.load_record.proofs.opacity_laws.attempts_of_a_load_make_its_history.Goals as goal

pub returns : goal.returns
returns c = made_their_history
