use Rattle.std.proofs.Common.{◌≡◌, ◌≤◌, ◌+◌, ◌++◌, length, map, vec_len, vec_capacity}
use Rattle.std.specs.Vec.Iter.{into_iter_items, into_iter_len}
use Rattle.load_tasks.specs.Streams.{streams_of}
use Rattle.load_run.proofs.slots.slots_by_seed.Given as goal

abbrev pub invariant-loop-keep : goal.invariant-loop-keep
invariant-loop-keep g l = record {
  all : l.fn.recorders.items ≡ l.yielded ++ into_iter_items l.keep-iterator;
  streams : map (λ slot. slot.draws) l.slots.items ≡ streams_of l.seed (length l.slots.items);
  kept : map (λ slot. slot.keep) l.slots.items ≡ l.yielded;
  room : vec_len l.slots + into_iter_len l.keep-iterator ≤ vec_capacity l.slots;
}
