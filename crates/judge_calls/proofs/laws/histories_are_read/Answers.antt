use Rattle.judge_calls.proofs.Histories.{histories_read}
use Rattle.judge_calls.proofs.laws.histories_are_read.Goals as goal

pub returns : goal.returns
returns c = histories_read c.a_verdict_finds_the_linearizations.ensures c.call_texts_are_read.ensures
