use Rattle.judge_calls.proofs.FirstWrong.{illegal_is_first_wrong}
use Rattle.judge_calls.proofs.laws.an_illegal_verdict_names_the_first_wrong_line.Goals as goal

pub returns : goal.returns
returns c = illegal_is_first_wrong
