use Rattle.judge_snapshot.proofs.TwoCalls.{lost_update_is_not_isolated}
use Rattle.judge_snapshot.proofs.anomalies.a_lost_update_is_not_isolated.Goals as goal

pub returns : goal.returns
returns c = lost_update_is_not_isolated
