use Rattle.load_record.proofs.AttemptExchange.{made_serially}
use Rattle.load_record.proofs.opacity_laws.ordered_attempts_are_made_serially.Goals as goal

pub returns : goal.returns
returns c = made_serially
