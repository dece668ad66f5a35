use Rattle.judge_calls.proofs.Foreign.{foreign_is_first}
use Rattle.judge_calls.proofs.laws.a_foreign_verdict_names_the_first_line_of_another_task.Goals as goal

pub returns : goal.returns
returns c = foreign_is_first
