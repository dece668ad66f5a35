use Rattle.vac_model.proofs.Refused.{step_untouched}
use Rattle.vac_model.proofs.laws.refused_commands_change_nothing.Goals as goal

pub returns : goal.returns
returns c = step_untouched
