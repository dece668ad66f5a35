use Rattle.judge_opacity.proofs.Outcomes.{fault_is_first}
use Rattle.judge_opacity.proofs.laws.a_fault_names_the_first_line_that_is_no_attempt.Goals as goal

pub returns : goal.returns
returns c = fault_is_first
