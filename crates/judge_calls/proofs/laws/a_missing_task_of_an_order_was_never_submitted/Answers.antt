use Rattle.judge_calls.proofs.AnyOrder.{missing_is_never_submitted}
use Rattle.judge_calls.proofs.laws.a_missing_task_of_an_order_was_never_submitted.Goals as goal

pub returns : goal.returns
returns c = missing_is_never_submitted c.a_missing_verdict_names_the_first_task_that_is_left_out.ensures
