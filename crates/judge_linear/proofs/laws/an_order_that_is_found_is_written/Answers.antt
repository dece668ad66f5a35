use Rattle.judge_linear.proofs.Written.{found_is_reordered}
use Rattle.judge_linear.proofs.laws.an_order_that_is_found_is_written.Goals as goal

pub returns : goal.returns
returns c = found_is_reordered c.a_legal_history_has_this_summary.ensures
