use Rattle.judge_snapshot.proofs.Parts.{parts_may_commit}
use Rattle.judge_snapshot.proofs.laws.parts_of_transactions_may_commit.Goals as goal

pub returns : goal.returns
returns g c =
    parts_may_commit (g.M.Object.rules) (g.M.WriteSetObject.write_sets) (g.N.Object.rules)
    (g.N.WriteSetObject.write_sets)
