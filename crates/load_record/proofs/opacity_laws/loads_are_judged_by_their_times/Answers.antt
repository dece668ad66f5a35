use Rattle.load_record.proofs.AtPlaces.{judged_by_times}
use Rattle.load_record.proofs.opacity_laws.loads_are_judged_by_their_times.Goals as goal

pub returns : goal.returns
returns c = judged_by_times
