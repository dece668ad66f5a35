use Rattle.std.proofs.Common.{◌≡◌, true, get_or, sym, arith}
use Rattle.judge_snapshot.proofs.Places.{any_at}
use Rattle.judge_snapshot.proofs.committing.clashes.Goals as goal

pub returns-then-conflicts : goal.returns-then-conflicts
returns-then-conflicts g c =
    let d = c.version.result.now in
    let vs = c.args.past.now.versions in
    let conflicts = g.M.WriteSetObject.write_sets.conflicts in
    let e : conflicts (get_or vs c.versions.place d).written c.args.written.now ≡ true = cc in
    sym (any_at (λ v. conflicts v.written c.args.written.now) vs c.versions.place c.args.missed d
    (omega (arith, c.versions-test.true)) (omega (arith, c.requires)) e)
