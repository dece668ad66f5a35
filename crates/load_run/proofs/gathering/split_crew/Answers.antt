use Rattle.std.proofs.Common.{rules, ◌≡◌, ◌∙◌, sym, ℕ, ◌+◌, ◌≤◌, ◌∷◌, ap, refl, arith}
use Rattle.std.specs.Vec.Iter.{into_iter_items, into_iter_len}
use Rattle.vac_manager.specs.Called.{ClientShown}
use Rattle.load_run.specs.Attempted.{uncounted}
use Rattle.load_run.proofs.Pairs.{paired_none, paired_step, paired_all, one_on, all_more, all_none, room_taken}
use Rattle.load_run.proofs.Pairs.{counted_on, handed_out, nothing_left}
use Rattle.load_run.proofs.Shares.{split_worker, split_keeps}
use Rattle.load_run.proofs.gathering.split_crew.Goals as goal

none_out : (a l : ℕ) → a ≡ 63 → l ≡ 0 → a + l ≡ 63
none_out a l e f = omega arith

-- the first one was taken already
counted_in : (l k j m n : ℕ) → l ≡ 0 → k ≡ j → j + 1 ≡ m → m ≡ n → l + k + 1 ≡ n
counted_in l k j m n e f less all = omega arith

room_for : (l k j m n asked room : ℕ) → l ≡ 0 → k ≡ j → j + 1 ≡ m → m ≡ n → asked ≡ n → asked ≤ room → l + k ≤ room
room_for l k j m n asked room e f less all same fits = omega arith

pub loop-another-init : goal.loop-another-init
loop-another-init g c =
    let made = c.in-Ok.ensures in
    let same = c.into_iter-another-iterator.ensures.into_iter_gives in
    record {
      all = refl;
      manager = refl;
      records = refl;
      floor = refl;
      aborted = refl;
      grants = none_out c.args.caller.user.value.grants c.in-Ok.others.len c.requires.alone made.len;
      count = counted_in c.in-Ok.others.len (into_iter_len c.into_iter-another-iterator.result)
          (into_iter_len c.next.new.self) (into_iter_len c.into_iter-slots.result) c.args.slots.len made.len
          (ap (λ it. into_iter_len it) same) c.in-Some.ensures.cases.1 c.into_iter-slots.ensures.len;
      room = room_for c.in-Ok.others.len (into_iter_len c.into_iter-another-iterator.result)
          (into_iter_len c.next.new.self) (into_iter_len c.into_iter-slots.result) c.args.slots.len c.len.result
          c.in-Ok.others.cap made.len (ap (λ it. into_iter_len it) same) c.in-Some.ensures.cases.1
          c.into_iter-slots.ensures.len c.len.ensures made.capacity;
      others_grants = all_none (λ w. w.caller.user.value.grants ≡ 0) c.in-Ok.others.items made.items;
      tallies = all_none (λ w. w.counts ≡ uncounted c.args.tries) c.in-Ok.others.items made.items;
      crew = paired_none _ c.in-Ok.others.items made.items;
    }

pub loop-another-preserved : goal.loop-another-preserved
loop-another-preserved g c =
    let s = c.in-Ok-split.ensures.ok in
    let i = c.loop-another.invariant in
    let t = c.in-Some-another.ensures.steps in
    let p = c.push_reserved.ensures in
    let keeps = split_keeps c.loop-another.caller.user c.split.new.self.user c.in-Ok-split.other.user s in
    record {
      all = one_on _ _ _ _ _ i.all t.0;
      manager = c.split.ensures.shared ∙ i.manager;
      records = keeps.records ∙ i.records;
      floor = keeps.floor ∙ i.floor;
      aborted = keeps.aborted ∙ i.aborted;
      grants = handed_out c.loop-another.caller.user.value.grants c.split.new.self.user.value.grants
          c.loop-another.others.len c.push_reserved.new.self.len keeps.grants p.len i.grants;
      count = counted_on c.loop-another.others.len c.push_reserved.new.self.len _ _ c.args.slots.len t.1 p.len i.count;
      room = room_taken c.loop-another.others.len c.push_reserved.new.self.len _ _ c.loop-another.others.cap
          c.push_reserved.new.self.cap t.1 p.len p.capacity i.room;
      others_grants = all_more (λ w. w.caller.user.value.grants ≡ 0) c.loop-another.others.items
          c.push_reserved.new.self.items _ p.items i.others_grants (ap (λ (x : ClientShown). x.value.grants) s.theirs);
      tallies = all_more (λ w. w.counts ≡ uncounted c.args.tries) c.loop-another.others.items
          c.push_reserved.new.self.items _ p.items i.tallies c.new.ensures;
      crew = paired_step _ _ c.loop-another.others.items c.push_reserved.new.self.items c.in-Some-another.another
          _ p.items i.crew (split_worker c.args.caller c.loop-another.caller c.split.new.self _ s
          c.in-Ok-split.ensures.theirs i.manager i.floor);
    }

pub returns-clause-crew : goal.returns-clause-crew
returns-clause-crew g c =
    let i = c.loop-another.invariant in
    let end = c.in-None.ensures in
    record {
      slot = c.in-Some.slot;
      rest = into_iter_items c.into_iter-another-iterator.result;
      seats_are = sym c.into_iter-slots.ensures.rest ∙ (c.in-Some.ensures.items ∙
          ap (λ it. c.in-Some.slot ∷ into_iter_items it) (sym c.into_iter-another-iterator.ensures.into_iter_gives));
      opening = record { manager_is = i.manager; records_are = i.records; knows = i.floor; seat_is = refl };
      others_are = paired_all _ _ _ _ _ i.all (nothing_left c.loop-another.another-iterator end.steps.0) i.crew;
      grants = i.grants;
      others_grants = i.others_grants;
      counts = search rules;
      aborted = i.aborted;
      others_counts = i.tallies;
    }
