use Rattle.judge_snapshot.proofs.Relaxing.{level_is_strong_without_order}
use Rattle.judge_snapshot.proofs.laws.a_level_is_strong_isolation_without_its_order.Goals as goal

pub returns : goal.returns
returns g c = level_is_strong_without_order (g.M.Object.rules) (g.M.WriteSetObject.write_sets)
