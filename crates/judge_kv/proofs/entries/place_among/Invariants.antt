use Rattle.std.proofs.Common.{◌≡◌, ℕ, List, ◌++◌, take, drop}
use Rattle.judge_kv.specs.Stores.{among}
use Rattle.judge_kv.proofs.entries.place_among.Given as goal

abbrev pub invariant-entries : goal.invariant-entries
invariant-entries l = (value : List ℕ) →
    among l.key value l.entries ≡ take l.place l.entries ++ among l.key value (drop l.place l.entries)
