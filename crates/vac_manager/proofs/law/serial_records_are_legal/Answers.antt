use Rattle.vac_manager.proofs.Legality.{legal}
use Rattle.vac_manager.proofs.law.serial_records_are_legal.Goals as goal

pub returns : goal.returns
returns c = legal
