use Rattle.std.proofs.Common.{◌≡◌, ◌-◌, suc, length, drop, ap, ◌∙◌, arith}
use Rattle.judge_snapshot.specs.Snapshots.{strong_needs}
use Rattle.judge_snapshot.specs.Possible.{all_longer}
use Rattle.judge_snapshot.proofs.committing.all_longer.Goals as goal

pub longer_at-requires-clause-others : goal.longer_at-requires-clause-others
longer_at-requires-clause-others g c =
    let pasts = c.args.pasts.now in
    let t = c.pasts-test.true in
    let next : length pasts - c.pasts.done ≡ suc (length pasts - 1 - c.pasts.done) = omega (arith, t) in
    c.pasts.invariant
    ∙ ap (λ n. all_longer g.M.Object.rules g.M.WriteSetObject.write_sets strong_needs
    (drop n pasts) c.args.commit.now.call)
    next
