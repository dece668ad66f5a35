use Rattle.load_record.proofs.Serial.{judged_apart}
use Rattle.load_record.proofs.opacity_laws.outcomes_are_judged_apart.Goals as goal

pub returns : goal.returns
returns c = judged_apart
