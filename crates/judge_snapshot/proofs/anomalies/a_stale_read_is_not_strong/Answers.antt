use Rattle.judge_snapshot.proofs.TwoCalls.{stale_read_is_not_strong}
use Rattle.judge_snapshot.proofs.anomalies.a_stale_read_is_not_strong.Goals as goal

pub returns : goal.returns
returns c = stale_read_is_not_strong
