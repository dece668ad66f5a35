use Rattle.judge_linear.proofs.Written.{covered_means_whole}
use Rattle.judge_linear.proofs.laws.a_covered_workload_is_whole_in_some_order.Goals as goal

pub returns : goal.returns
returns c = covered_means_whole c.a_legal_history_has_this_summary.ensures
    c.a_covered_order_is_the_whole_workload.ensures
