use Rattle.judge_snapshot.proofs.Reduced.{strong_is_linearizable}
use Rattle.judge_snapshot.proofs.laws.strong_snapshot_isolation_is_linearizability_of_commits.Goals as goal

pub returns : goal.returns
returns g c = strong_is_linearizable (g.M.Object.rules) (g.M.WriteSetObject.write_sets) (g.met.M.WriteSetObject.laws)
