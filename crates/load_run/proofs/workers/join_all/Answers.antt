use Rattle.std.proofs.Common.{◌∙◌, List, length, sym, ap}
use Rattle.std.specs.Vec.Iter.{into_iter_len}
use Rattle.load_run.proofs.Pairs.{paired_none, paired_step, paired_all, one_on, nothing_left, room_first, room_taken}
use Rattle.load_run.proofs.workers.join_all.Goals as goal

pub loop-handle-init : goal.loop-handle-init
loop-handle-init g c =
    let made = c.into_iter-handle-iterator.ensures.into_iter_gives in
    record {
      all = sym made.0;
      joined = paired_none _ _ c.requires.empty;
      room = room_first c.args.done.len (into_iter_len c.into_iter-handle-iterator.result) c.args.handles.len
          c.args.done.cap (c.args.done.ok.0 ∙ ap (λ (l : List _). length l) c.requires.empty) made.1 c.requires.room;
    }

pub loop-handle-preserved : goal.loop-handle-preserved
loop-handle-preserved g c = record {
  all = one_on _ _ _ _ _ c.loop-handle.invariant.all c.in-Some.ensures.steps.0;
  joined = paired_step _ _ c.loop-handle.done.items c.push_reserved.new.self.items _ c.join.result
      c.push_reserved.ensures.items c.loop-handle.invariant.joined c.join.ensures;
  room = room_taken c.loop-handle.done.len c.push_reserved.new.self.len (into_iter_len c.loop-handle.handle-iterator)
      (into_iter_len c.next.new.self) c.loop-handle.done.cap c.push_reserved.new.self.cap c.in-Some.ensures.steps.1
      c.push_reserved.ensures.len c.push_reserved.ensures.capacity c.loop-handle.invariant.room;
}

pub returns : goal.returns
returns g c = paired_all _ _ _ _ _ c.loop-handle.invariant.all
    (nothing_left c.loop-handle.handle-iterator c.in-None.ensures.steps.0) c.loop-handle.invariant.joined
