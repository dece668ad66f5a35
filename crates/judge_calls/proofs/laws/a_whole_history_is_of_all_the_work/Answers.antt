use Rattle.judge_calls.proofs.Done.{legal_is_whole}
use Rattle.judge_calls.proofs.laws.a_whole_history_is_of_all_the_work.Goals as goal

pub returns : goal.returns
returns c = legal_is_whole c.a_verdict_finds_the_linearizations.ensures
