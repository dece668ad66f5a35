use Rattle.judge_calls.proofs.AnyOrder.{left_out_is_pending}
use Rattle.judge_calls.proofs.laws.a_call_that_an_order_leaves_out_is_pending.Goals as goal

pub returns : goal.returns
returns c = left_out_is_pending c.a_missing_verdict_names_the_first_task_that_is_left_out.ensures
