use Rattle.std.proofs.Common.{◌≡◌, ◌≤◌, ◌+◌, ◌++◌, vec_len, vec_capacity, map}
use Rattle.std.specs.Vec.Iter.{into_iter_items, into_iter_len}
use Rattle.load_run.proofs.slots.recorders_of.Given as goal

abbrev pub invariant-loop-slot : goal.invariant-loop-slot
invariant-loop-slot g l = record {
  all : l.fn.slots.items ≡ l.yielded ++ into_iter_items l.slot-iterator;
  kept : l.recorders.items ≡ map (λ slot. slot.keep) l.yielded;
  room : vec_len l.recorders + into_iter_len l.slot-iterator ≤ vec_capacity l.recorders;
}
