use Rattle.std.proofs.Common.{◌≡◌, ◌++◌, ◌-◌, take, drop, length}
use Rattle.judge_kv.specs.Stores.{without}
use Rattle.judge_kv.proofs.entries.take_out.Given as goal

abbrev pub invariant-entries : goal.invariant-entries
invariant-entries l = without l.key l.initial.entries.items
    ≡ take l.place l.entries.items ++ without l.key (drop l.place l.entries.items)

abbrev pub decreases-entries : goal.decreases-entries
decreases-entries l = length l.entries.items - l.place
