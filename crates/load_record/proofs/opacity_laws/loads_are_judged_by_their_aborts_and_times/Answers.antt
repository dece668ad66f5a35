use Rattle.load_record.proofs.Made.{judged_by_aborts_and_times}
use Rattle.load_record.proofs.opacity_laws.loads_are_judged_by_their_aborts_and_times.Goals as goal

pub returns : goal.returns
returns c = judged_by_aborts_and_times
