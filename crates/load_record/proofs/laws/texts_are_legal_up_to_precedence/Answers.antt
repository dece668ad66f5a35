use Rattle.load_record.proofs.Legality.{texts_up_to_precedence}
use Rattle.load_record.proofs.laws.texts_are_legal_up_to_precedence.Goals as goal

pub returns : goal.returns
returns c = texts_up_to_precedence
