use Rattle.std.proofs.Common.{◌≡◌, take}
use Rattle.judge_snapshot.proofs.commits.CommitsWrittenObject.copy.Given as goal

abbrev pub invariant-pasts : goal.invariant-pasts
invariant-pasts g l = l.pasts.items ≡ take l.place l.self
