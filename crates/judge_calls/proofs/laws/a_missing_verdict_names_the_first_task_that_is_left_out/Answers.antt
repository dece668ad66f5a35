use Rattle.judge_calls.proofs.Missing.{missing_is_first}
use Rattle.judge_calls.proofs.laws.a_missing_verdict_names_the_first_task_that_is_left_out.Goals as goal

pub returns : goal.returns
returns c = missing_is_first c.a_verdict_finds_the_linearizations.ensures
