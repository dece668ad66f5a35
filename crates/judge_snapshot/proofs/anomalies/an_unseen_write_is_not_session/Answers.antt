use Rattle.judge_snapshot.proofs.TwoCalls.{unseen_write_is_not_session}
use Rattle.judge_snapshot.proofs.anomalies.an_unseen_write_is_not_session.Goals as goal

pub returns : goal.returns
returns c = unseen_write_is_not_session
