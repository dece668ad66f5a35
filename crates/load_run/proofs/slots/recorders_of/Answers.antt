use Rattle.std.proofs.Common.{◌∙◌, ap, sym, ◌∷◌, [], ◌++◌, List, length, map}
use Rattle.std.proofs.lemmas.List.{map-append}
use Rattle.std.specs.Vec.Iter.{into_iter_len}
use Rattle.load_run.proofs.Pairs.{one_on, all_met, nothing_left, room_first, room_here, room_taken}
use Rattle.load_run.proofs.slots.recorders_of.Goals as goal

pub loop-slot-init : goal.loop-slot-init
loop-slot-init g c =
    let made = c.into_iter-slot-iterator.ensures.into_iter_gives in
    record {
      all = sym made.0;
      kept = c.requires.empty;
      room = room_first c.args.recorders.len (into_iter_len c.into_iter-slot-iterator.result) c.args.slots.len
          c.args.recorders.cap (c.args.recorders.ok.0 ∙ ap (λ (l : List _). length l) c.requires.empty) made.1
          c.requires.room;
    }

pub push_reserved-requires : goal.push_reserved-requires
push_reserved-requires g c = room_here c.loop-slot.recorders.len (into_iter_len c.loop-slot.slot-iterator)
    (into_iter_len c.next.new.self) c.loop-slot.recorders.cap c.in-Some.ensures.steps.1 c.loop-slot.invariant.room

pub loop-slot-preserved : goal.loop-slot-preserved
loop-slot-preserved g c = record {
  all = one_on _ _ _ _ _ c.loop-slot.invariant.all c.in-Some.ensures.steps.0;
  kept = c.push_reserved.ensures.items ∙ ap (λ (keeps : List _). keeps ++ (c.in-Some.slot.keep ∷ []))
      c.loop-slot.invariant.kept ∙ sym (map-append (λ slot. slot.keep) c.loop-slot.yielded (c.in-Some.slot ∷ []));
  room = room_taken c.loop-slot.recorders.len c.push_reserved.new.self.len (into_iter_len c.loop-slot.slot-iterator)
      (into_iter_len c.next.new.self) c.loop-slot.recorders.cap c.push_reserved.new.self.cap c.in-Some.ensures.steps.1
      c.push_reserved.ensures.len c.push_reserved.ensures.capacity c.loop-slot.invariant.room;
}

pub returns : goal.returns
returns g c = c.loop-slot.invariant.kept ∙ ap (map (λ slot. slot.keep)) (all_met _ _ _ c.loop-slot.invariant.all
    (nothing_left c.loop-slot.slot-iterator c.in-None.ensures.steps.0))
