use Rattle.std.proofs.Common.{◌≡◌}
use Rattle.judge_snapshot.specs.Snapshots.{strong_needs}
use Rattle.judge_snapshot.specs.Possible.{longer}
use Rattle.judge_snapshot.proofs.committing.longer.Given as goal

abbrev pub invariant-missed : goal.invariant-missed
invariant-missed g l =
    l.nexts.items ≡ longer g.M.Object.rules g.M.WriteSetObject.write_sets strong_needs l.past l.commit.call l.missed
    l.fn.others.items
