use Rattle.std.proofs.Common.{◌≡◌, ◌≤◌, ◌++◌, vec_len, vec_capacity, ◌+◌}
use Rattle.std.specs.Vec.Iter.{into_iter_items, into_iter_len}
use Rattle.load_run.specs.Lists.{Paired}
use Rattle.load_run.specs.Load.{IsPromise}
use Rattle.load_run.proofs.plan.Plan.start_all.Given as goal

abbrev pub invariant-loop-worker : goal.invariant-loop-worker
invariant-loop-worker g l = record {
  all : l.fn.workers.items ≡ l.yielded ++ into_iter_items l.worker-iterator;
  started : Paired (λ w h. IsPromise l.self.settings w h.promise) l.yielded l.handles.items;
  count : vec_len l.handles + into_iter_len l.worker-iterator ≡ vec_len l.fn.workers;
  room : vec_len l.fn.workers ≤ vec_capacity l.handles;
}
