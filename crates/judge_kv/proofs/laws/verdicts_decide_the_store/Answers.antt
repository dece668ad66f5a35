use Rattle.judge_kv.proofs.Deciding.{verdicts_decide}
use Rattle.judge_kv.proofs.laws.verdicts_decide_the_store.Goals as goal

pub returns : goal.returns
returns c = verdicts_decide
