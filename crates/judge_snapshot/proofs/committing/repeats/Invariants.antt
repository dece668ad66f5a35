use Rattle.std.proofs.Common.{◌≡◌}
use Rattle.judge_snapshot.specs.Snapshots.{strong_needs}
use Rattle.judge_snapshot.specs.Possible.{repeats}
use Rattle.judge_snapshot.proofs.committing.repeats.Given as goal

abbrev pub invariant-fewer : goal.invariant-fewer
invariant-fewer g l =
    l.found ≡ repeats g.M.Object.rules g.M.WriteSetObject.write_sets strong_needs l.past l.commit.call l.missed l.fewer
