use Rattle.judge_calls.proofs.Linearized.{legal_is_linearization}
use Rattle.judge_calls.proofs.laws.a_verdict_finds_the_linearizations.Goals as goal

pub returns : goal.returns
returns c = legal_is_linearization
