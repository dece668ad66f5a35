use Rattle.judge_snapshot.proofs.Readers.{dirty_read_is_not_isolated}
use Rattle.judge_snapshot.proofs.anomalies.a_dirty_read_is_not_isolated.Goals as goal

pub returns : goal.returns
returns c = dirty_read_is_not_isolated
