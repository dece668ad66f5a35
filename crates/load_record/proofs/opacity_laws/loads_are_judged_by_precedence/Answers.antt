use Rattle.load_record.proofs.InTurn.{judged_by_precedence}
use Rattle.load_record.proofs.opacity_laws.loads_are_judged_by_precedence.Goals as goal

pub returns : goal.returns
returns c = judged_by_precedence
