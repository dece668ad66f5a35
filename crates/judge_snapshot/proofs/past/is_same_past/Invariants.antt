use Rattle.std.proofs.Common.{◌≡◌, take}
use Rattle.judge_snapshot.proofs.past.is_same_past.Given as goal

abbrev pub invariant-versions : goal.invariant-versions
invariant-versions g l = take l.place l.past.versions ≡ take l.place l.other.versions
