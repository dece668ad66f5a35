use Rattle.std.proofs.Common.{◌≡◌, take}
use Rattle.judge_kv.proofs.entries.shared.Given as goal

abbrev pub invariant-entries : goal.invariant-entries
invariant-entries l = l.others.items ≡ take l.place l.entries
