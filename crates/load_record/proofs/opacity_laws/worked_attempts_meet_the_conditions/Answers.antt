use Rattle.load_record.proofs.Worked.{worked}
use Rattle.load_record.proofs.opacity_laws.worked_attempts_meet_the_conditions.Goals as goal

pub returns : goal.returns
returns c = worked
