use Rattle.judge_linear.proofs.Written.{order_is_judged_legal}
use Rattle.judge_linear.proofs.laws.an_order_that_is_written_is_judged_legal.Goals as goal

pub returns : goal.returns
returns c = order_is_judged_legal c.a_legal_history_has_this_summary.ensures
