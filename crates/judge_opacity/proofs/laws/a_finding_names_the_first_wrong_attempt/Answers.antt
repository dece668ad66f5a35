use Rattle.judge_opacity.proofs.Outcomes.{illegal_is_first_wrong}
use Rattle.judge_opacity.proofs.laws.a_finding_names_the_first_wrong_attempt.Goals as goal

pub returns : goal.returns
returns c = illegal_is_first_wrong
