use Rattle.load_record.proofs.AttemptExchange.{history_judged}
use Rattle.load_record.proofs.opacity_laws.histories_are_opaque_up_to_precedence.Goals as goal

pub returns : goal.returns
returns c = history_judged
