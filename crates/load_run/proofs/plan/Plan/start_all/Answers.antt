use Rattle.std.proofs.Common.{◌≤◌, ◌∙◌, ℕ, List, length, sym, ap, subst}
use Rattle.std.specs.Vec.Iter.{into_iter_len}
use Rattle.load_run.proofs.Pairs.{paired_none, paired_step, paired_all, one_on, nothing_left, count_first, count_kept}
use Rattle.load_run.proofs.plan.Plan.start_all.Goals as goal

pub loop-worker-init : goal.loop-worker-init
loop-worker-init g c =
    let made = c.into_iter-worker-iterator.ensures.into_iter_gives in
    record {
      all = sym made.0;
      started = paired_none _ _ c.requires.empty;
      count = count_first c.args.handles.now.len (into_iter_len c.into_iter-worker-iterator.result) c.args.workers.len
          (c.args.handles.now.ok.0 ∙ ap (λ (l : List _). length l) c.requires.empty) made.1;
      room = c.requires.room;
    }

pub loop-worker-preserved : goal.loop-worker-preserved
loop-worker-preserved g c = record {
  all = one_on _ _ _ _ _ c.loop-worker.invariant.all c.in-Some.ensures.steps.0;
  started = paired_step _ _ c.loop-worker.handles.items c.push_reserved.new.self.items _ c.in_ok-handle.handle
      c.push_reserved.ensures.items c.loop-worker.invariant.started c.in_ok-handle.ensures.promise;
  count = count_kept c.loop-worker.handles.len c.push_reserved.new.self.len
      (into_iter_len c.loop-worker.worker-iterator) (into_iter_len c.next.new.self) c.args.workers.len
      c.in-Some.ensures.steps.1 c.push_reserved.ensures.len c.loop-worker.invariant.count;
  room = subst (λ (n : ℕ). c.args.workers.len ≤ n) (sym c.push_reserved.ensures.capacity) c.loop-worker.invariant.room;
}

pub returns-clause-promises : goal.returns-clause-promises
returns-clause-promises g c = paired_all _ _ _ _ _ c.loop-worker.invariant.all
    (nothing_left c.loop-worker.worker-iterator c.in-None.ensures.steps.0) c.loop-worker.invariant.started
