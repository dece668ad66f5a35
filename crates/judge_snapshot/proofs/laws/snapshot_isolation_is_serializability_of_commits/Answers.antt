use Rattle.judge_snapshot.proofs.Reduced.{snapshot_is_serializable}
use Rattle.judge_snapshot.proofs.laws.snapshot_isolation_is_serializability_of_commits.Goals as goal

pub returns : goal.returns
returns g c = snapshot_is_serializable (g.M.Object.rules) (g.M.WriteSetObject.write_sets) (g.met.M.WriteSetObject.laws)
