use Rattle.judge_snapshot.proofs.TwoCalls.{write_skew_is_isolated}
use Rattle.judge_snapshot.proofs.anomalies.write_skew_is_isolated.Goals as goal

pub returns : goal.returns
returns c = write_skew_is_isolated
