use Rattle.judge_snapshot.proofs.TrimmedLaw.{strong_is_trimmed}
use Rattle.judge_snapshot.proofs.laws.forgotten_versions_are_no_snapshots.Goals as goal

pub returns : goal.returns
returns g c = strong_is_trimmed (g.M.Object.rules) (g.M.WriteSetObject.write_sets) (g.met.M.WriteSetObject.laws)
