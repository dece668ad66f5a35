use Rattle.load_record.proofs.Judging.{judged_by_entries}
use Rattle.load_record.proofs.opacity_laws.texts_are_judged_by_their_entries.Goals as goal

pub returns : goal.returns
returns c = judged_by_entries
