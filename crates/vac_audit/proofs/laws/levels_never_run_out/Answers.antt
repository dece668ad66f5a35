use Rattle.vac_audit.proofs.Levels.{enough_levels}
use Rattle.vac_audit.proofs.laws.levels_never_run_out.Goals as goal

pub returns : goal.returns
returns c = enough_levels
