use Rattle.vac_model.proofs.Codes.{code_determines}
use Rattle.vac_model.proofs.laws.codes_determine_tasks_and_replies.Goals as goal

pub returns : goal.returns
returns c = λ t u r q e. code_determines t u r q e
