use Rattle.judge_snapshot.proofs.Hierarchy.{implied_levels_hold}
use Rattle.judge_snapshot.proofs.laws.implied_levels_hold.Goals as goal

pub returns : goal.returns
returns g c = implied_levels_hold (g.M.Object.rules) (g.M.WriteSetObject.write_sets) (g.met.M.WriteSetObject.laws)
