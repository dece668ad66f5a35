use Rattle.load_record.proofs.LoadWorked.{worked_load}
use Rattle.load_record.proofs.opacity_laws.a_worked_load_meets_the_conditions.Goals as goal

pub returns : goal.returns
returns c = worked_load
