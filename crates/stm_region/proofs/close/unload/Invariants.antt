use Rattle.std.proofs.Common.{◌≡◌, ◌≤◌, take, drop, vec_capacity}
use Rattle.std.specs.Slots.{slots_items}
use Rattle.stm_region.proofs.close.unload.Given as goal

abbrev pub invariant-loop-k : goal.invariant-loop-k
invariant-loop-k g l = record {
  items : l.words.items ≡ take l.k (drop l.from (slots_items l.closed.words));
  room : l.size ≤ vec_capacity l.words;
}
