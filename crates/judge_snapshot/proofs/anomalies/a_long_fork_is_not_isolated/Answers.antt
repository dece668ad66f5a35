use Rattle.judge_snapshot.proofs.LongFork.{long_fork_is_not_isolated}
use Rattle.judge_snapshot.proofs.anomalies.a_long_fork_is_not_isolated.Goals as goal

pub returns : goal.returns
returns c = long_fork_is_not_isolated
