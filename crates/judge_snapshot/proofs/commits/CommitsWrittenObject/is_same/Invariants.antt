use Rattle.std.proofs.Common.{◌≡◌, take}
use Rattle.judge_snapshot.proofs.commits.CommitsWrittenObject.is_same.Given as goal

abbrev pub invariant-pasts : goal.invariant-pasts
invariant-pasts g l = take l.place l.self ≡ take l.place l.other
