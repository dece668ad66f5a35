use Rattle.load_record.proofs.Legality.{up_to_precedence}
use Rattle.load_record.proofs.laws.legal_up_to_precedence.Goals as goal

pub returns : goal.returns
returns c = up_to_precedence
