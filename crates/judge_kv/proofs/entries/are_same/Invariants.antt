use Rattle.std.proofs.Common.{◌≡◌, take}
use Rattle.judge_kv.proofs.entries.are_same.Given as goal

abbrev pub invariant-entries : goal.invariant-entries
invariant-entries l = take l.place l.entries ≡ take l.place l.others
