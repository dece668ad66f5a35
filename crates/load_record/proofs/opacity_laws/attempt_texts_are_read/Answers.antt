use Rattle.load_record.proofs.Reading.{texts_read}
use Rattle.load_record.proofs.opacity_laws.attempt_texts_are_read.Goals as goal

pub returns : goal.returns
returns c = texts_read
