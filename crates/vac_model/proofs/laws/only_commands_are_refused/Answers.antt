use Rattle.vac_model.proofs.Refused.{run_answers}
use Rattle.vac_model.proofs.laws.only_commands_are_refused.Goals as goal

pub returns : goal.returns
returns c = run_answers
