use Rattle.load_record.proofs.Legality.{ordered_calls_legal}
use Rattle.load_record.proofs.laws.ordered_calls_are_legal.Goals as goal

pub returns : goal.returns
returns c = ordered_calls_legal
