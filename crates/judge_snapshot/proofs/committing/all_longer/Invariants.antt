use Rattle.std.proofs.Common.{◌≡◌, ◌-◌, length, drop}
use Rattle.judge_snapshot.specs.Snapshots.{strong_needs}
use Rattle.judge_snapshot.specs.Possible.{all_longer}
use Rattle.judge_snapshot.proofs.committing.all_longer.Given as goal

-- the version histories from the last ones on
abbrev pub invariant-pasts : goal.invariant-pasts
invariant-pasts g l =
    l.nexts.items ≡ all_longer g.M.Object.rules g.M.WriteSetObject.write_sets strong_needs
    (drop (length l.pasts - l.done) l.pasts) l.commit.call
