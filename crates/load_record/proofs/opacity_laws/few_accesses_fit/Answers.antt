use Rattle.load_record.proofs.Lengths.{few_fit}
use Rattle.load_record.proofs.opacity_laws.few_accesses_fit.Goals as goal

pub returns : goal.returns
returns c = few_fit
