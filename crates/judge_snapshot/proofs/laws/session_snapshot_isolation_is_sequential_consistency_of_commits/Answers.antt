use Rattle.judge_snapshot.proofs.Reduced.{session_is_sequential}
use Rattle.judge_snapshot.proofs.laws.session_snapshot_isolation_is_sequential_consistency_of_commits.Goals as goal

pub returns : goal.returns
returns g c = session_is_sequential (g.M.Object.rules) (g.M.WriteSetObject.write_sets) (g.met.M.WriteSetObject.laws)
