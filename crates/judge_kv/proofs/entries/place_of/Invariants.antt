use Rattle.std.proofs.Common.{◌≡◌, drop}
use Rattle.judge_kv.specs.Stores.{held_at}
use Rattle.judge_kv.proofs.entries.place_of.Given as goal

abbrev pub invariant-entries : goal.invariant-entries
invariant-entries l = held_at l.key l.entries ≡ held_at l.key (drop l.place l.entries)
