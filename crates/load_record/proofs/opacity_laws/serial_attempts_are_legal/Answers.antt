use Rattle.load_record.proofs.Serial.{serial_legal}
use Rattle.load_record.proofs.opacity_laws.serial_attempts_are_legal.Goals as goal

pub returns : goal.returns
returns c = serial_legal
