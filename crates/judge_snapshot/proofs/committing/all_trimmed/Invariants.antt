use Rattle.std.proofs.Common.{◌≡◌, take, map}
use Rattle.judge_snapshot.specs.Trimmed.{trim}
use Rattle.judge_snapshot.proofs.committing.all_trimmed.Given as goal

abbrev pub invariant-pasts : goal.invariant-pasts
invariant-pasts g l = l.made.items ≡ map (trim l.horizon) (take l.place l.pasts)
