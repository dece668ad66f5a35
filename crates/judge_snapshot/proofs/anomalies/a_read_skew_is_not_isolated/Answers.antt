use Rattle.judge_snapshot.proofs.Readers.{read_skew_is_not_isolated}
use Rattle.judge_snapshot.proofs.anomalies.a_read_skew_is_not_isolated.Goals as goal

pub returns : goal.returns
returns c = read_skew_is_not_isolated
