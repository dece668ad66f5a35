use Rattle.std.proofs.Common.{◌≡◌, IfOk, subst}
use Rattle.judge_snapshot.specs.Snapshots.{strong_needs}
use Rattle.judge_snapshot.proofs.Growing.{all_at}
use Rattle.judge_snapshot.proofs.committing.longer_at.Goals as goal

pub returns : goal.returns
returns g c =
    subst (λ l. IfOk c.longer.result (λ made. made.items ≡ l))
    (all_at g.M.Object.rules g.M.WriteSetObject.write_sets strong_needs c.args.pasts.now c.args.place
    c.index-pasts-place.result c.args.commit.now.call c.args.others.items c.requires.within c.index-pasts-place.is
    c.requires.others) c.longer.ensures
