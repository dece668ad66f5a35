use Rattle.std.proofs.Common.{rules, sym, subst, ◌≡◌, ℕ, ◌∙◌, ap, ◌∷◌, [], ◌++◌, List, length, map}
use Rattle.std.proofs.lemmas.List.{map-append}
use Rattle.rand_pcg.specs.Lcg.{Lcg}
use Rattle.load_tasks.specs.Streams.{streams_of}
use Rattle.load_tasks.proofs.Streaming.{next_stream}
use Rattle.std.specs.Vec.Iter.{into_iter_len}
use Rattle.load_run.proofs.Pairs.{one_on, all_met, image_length, nothing_left, one_longer, room_first, room_here}
use Rattle.load_run.proofs.Pairs.{room_taken}
use Rattle.load_run.proofs.slots.slots_by_seed.Goals as goal

pub loop-keep-init : goal.loop-keep-init
loop-keep-init g c = record {
  all = sym c.into_iter-keep-iterator.ensures.into_iter_gives.0;
  streams = search rules;
  kept = ap (map (λ slot. slot.keep)) c.in_ok-slots.ensures.items;
  room = room_first c.in_ok-slots.slots.len (into_iter_len c.into_iter-keep-iterator.result) c.len.result
      c.in_ok-slots.slots.cap c.in_ok-slots.ensures.len
      (c.into_iter-keep-iterator.ensures.into_iter_gives.1 ∙ sym c.len.ensures) c.in_ok-slots.ensures.capacity;
}

pub push_reserved-requires : goal.push_reserved-requires
push_reserved-requires g c = room_here c.loop-keep.slots.len (into_iter_len c.loop-keep.keep-iterator)
    (into_iter_len c.next.new.self) c.loop-keep.slots.cap c.in-Some.ensures.steps.1 c.loop-keep.invariant.room

pub loop-keep-preserved : goal.loop-keep-preserved
loop-keep-preserved g c =
    let grown = one_longer c.push_reserved.new.self.items c.loop-keep.slots.items _ c.push_reserved.ensures.items in
    record {
      all = one_on _ _ _ _ _ c.loop-keep.invariant.all c.in-Some.ensures.steps.0;
      streams = ap (map (λ slot. slot.draws)) c.push_reserved.ensures.items ∙
          map-append (λ slot. slot.draws) c.loop-keep.slots.items _
          ∙ ap (λ (states : List Lcg). states ++ (c.new-draws.result ∷ [])) c.loop-keep.invariant.streams
          ∙ ap (λ (state : Lcg). streams_of c.args.seed (length c.loop-keep.slots.items) ++ (state ∷ []))
          c.new-draws.ensures
          ∙ next_stream c.args.seed (length c.loop-keep.slots.items) c.len-in-loop-keep.result
          (c.len-in-loop-keep.ensures ∙ c.loop-keep.slots.ok.0)
          ∙ sym (ap (streams_of c.args.seed) grown);
      kept = ap (map (λ slot. slot.keep)) c.push_reserved.ensures.items ∙
          map-append (λ slot. slot.keep) c.loop-keep.slots.items _
          ∙ ap (λ (keeps : List _). keeps ++ (c.in-Some.keep ∷ [])) c.loop-keep.invariant.kept;
      room = room_taken c.loop-keep.slots.len c.push_reserved.new.self.len (into_iter_len c.loop-keep.keep-iterator)
          (into_iter_len c.next.new.self) c.loop-keep.slots.cap c.push_reserved.new.self.cap c.in-Some.ensures.steps.1
          c.push_reserved.ensures.len c.push_reserved.ensures.capacity c.loop-keep.invariant.room;
    }

pub returns-clause-recorders : goal.returns-clause-recorders
returns-clause-recorders g c = c.loop-keep.invariant.kept ∙ all_met _ _ _ c.loop-keep.invariant.all
    (nothing_left c.loop-keep.keep-iterator c.in-None.ensures.steps.0)

pub returns-clause-number : goal.returns-clause-number
returns-clause-number g c = c.loop-keep.slots.ok.0 ∙ (image_length
    (λ slot. slot.keep) c.loop-keep.slots.items c.args.recorders.items (returns-clause-recorders g c) ∙
    sym c.args.recorders.ok.0)

pub returns-clause-streams : goal.returns-clause-streams
returns-clause-streams g c =
    subst (λ (n : ℕ). map (λ slot. slot.draws) c.loop-keep.slots.items ≡ streams_of c.args.seed n)
    (image_length (λ slot. slot.keep) c.loop-keep.slots.items c.args.recorders.items (returns-clause-recorders g c) ∙
    sym c.args.recorders.ok.0) c.loop-keep.invariant.streams
