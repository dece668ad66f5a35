use Rattle.std.proofs.Common.{◌≡◌, take, false}
use Rattle.std.specs.List.{list_any}
use Rattle.judge_snapshot.proofs.committing.clashes.Given as goal

abbrev pub invariant-versions : goal.invariant-versions
invariant-versions g l =
    list_any (λ v. g.M.WriteSetObject.write_sets.conflicts v.written l.written) (take l.place l.past.versions) ≡ false
