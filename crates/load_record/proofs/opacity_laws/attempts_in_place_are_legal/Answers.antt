use Rattle.load_record.proofs.InPlace.{in_place_legal}
use Rattle.load_record.proofs.opacity_laws.attempts_in_place_are_legal.Goals as goal

pub returns : goal.returns
returns c = in_place_legal
