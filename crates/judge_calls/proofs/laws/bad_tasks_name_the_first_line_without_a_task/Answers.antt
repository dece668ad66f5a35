use Rattle.judge_calls.proofs.BadTasks.{bad_tasks_is_first}
use Rattle.judge_calls.proofs.laws.bad_tasks_name_the_first_line_without_a_task.Goals as goal

pub returns : goal.returns
returns c = bad_tasks_is_first
