use Rattle.judge_calls.proofs.Done.{legal_is_whole}
use Rattle.judge_calls.proofs.AnyOrder.{covered_is_whole}
use Rattle.judge_calls.proofs.laws.a_covered_order_is_the_whole_workload.Goals as goal

pub returns : goal.returns
returns c = covered_is_whole (legal_is_whole c.a_verdict_finds_the_linearizations.ensures)
