use Rattle.std.proofs.Common.{◌≡◌, ◌≤◌, ◌++◌, vec_len, vec_capacity, ◌+◌}
use Rattle.std.specs.Vec.Iter.{into_iter_items, into_iter_len}
use Rattle.load_run.specs.Keeping.{contents}
use Rattle.load_run.specs.Lists.{Paired}
use Rattle.load_run.specs.Slots.{shown}
use Rattle.load_run.specs.Load.{DidWork}
use Rattle.load_run.proofs.workers.join_all.Given as goal

abbrev pub invariant-loop-handle : goal.invariant-loop-handle
invariant-loop-handle g l = record {
  all : l.fn.handles.items ≡ l.yielded ++ into_iter_items l.handle-iterator;
  joined : Paired (λ h r. DidWork g.D.Draws.leads
      (shown (contents g.K.Recorder.notes g.K.Recorder.traced g.K.Recorder.latest))
      h.promise.settings h.promise.worker.value
      r)
      l.yielded
      l.done.items;
  room : vec_len l.done + into_iter_len l.handle-iterator ≤ vec_capacity l.done;
}
