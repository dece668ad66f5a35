use Rattle.judge_snapshot.proofs.PartHistories.{parts_are_isolated}
use Rattle.judge_snapshot.proofs.laws.parts_of_isolated_histories_are_isolated.Goals as goal

pub returns : goal.returns
returns g c =
    parts_are_isolated (g.M.Object.rules) (g.M.WriteSetObject.write_sets) (g.N.Object.rules)
    (g.N.WriteSetObject.write_sets)
