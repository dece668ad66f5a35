use Rattle.judge_calls.proofs.AnyOrder.{foreign_is_of_history}
use Rattle.judge_calls.proofs.laws.a_foreign_task_is_named_by_its_line_of_the_history.Goals as goal

pub returns : goal.returns
returns c = foreign_is_of_history
