use Rattle.judge_calls.proofs.FirstWrong.{fault_is_first}
use Rattle.judge_calls.proofs.laws.a_fault_names_the_first_line_that_is_no_call.Goals as goal

pub returns : goal.returns
returns c = fault_is_first
