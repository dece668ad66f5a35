use Rattle.load_record.proofs.Judging.{up_to_precedence}
use Rattle.load_record.proofs.opacity_laws.texts_are_opaque_up_to_precedence.Goals as goal

pub returns : goal.returns
returns c = up_to_precedence
