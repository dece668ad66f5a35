use Rattle.judge_calls.proofs.Linearized.{legal_summary}
use Rattle.judge_calls.proofs.laws.a_legal_history_has_this_summary.Goals as goal

pub returns : goal.returns
returns c = legal_summary
