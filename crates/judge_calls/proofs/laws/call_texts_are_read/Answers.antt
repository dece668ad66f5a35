use Rattle.judge_calls.proofs.CallText.{texts_read}
use Rattle.judge_calls.proofs.laws.call_texts_are_read.Goals as goal

pub returns : goal.returns
returns c = texts_read c.task_texts_are_read.ensures
