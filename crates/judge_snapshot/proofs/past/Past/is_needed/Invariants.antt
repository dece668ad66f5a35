use Rattle.std.proofs.Common.{◌≡◌, take, false}
use Rattle.std.specs.List.{list_any}
use Rattle.judge_snapshot.specs.Snapshots.{strong_needs}
use Rattle.judge_snapshot.proofs.past.Past.is_needed.Given as goal

abbrev pub invariant-versions : goal.invariant-versions
invariant-versions g l = list_any (λ v. strong_needs v.span l.call) (take l.place l.self.versions) ≡ false
