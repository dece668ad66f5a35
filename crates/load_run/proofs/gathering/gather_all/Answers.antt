use Rattle.std.proofs.Common.{rules, ◌≡◌, ◌∙◌, sym, ◌≤◌, ◌<◌, ◌+◌, ◌*◌, ◌^◌, ℕ, [], ◌∷◌, List, ap, subst, refl, arith}
use Rattle.std.specs.Vec.Iter.{into_iter_items, into_iter_len}
use Rattle.stm_region.specs.Shown.{RegionShown}
use Rattle.load_run.specs.declared.outcomes.Outcomes.{Outcomes}
use Rattle.load_run.specs.Attempted.{TaskCountsShown}
use Rattle.load_run.specs.Looping.{total, plus}
use Rattle.load_run.specs.Lists.{Paired}
use Rattle.load_run.specs.Load.{Gathered, IsMember}
use Rattle.load_run.proofs.Pairs.{all_met, paired_none, paired_step, one_on, all_same, all_but_first, all_first}
use Rattle.load_run.proofs.Pairs.{room_left, room_taken, held_back, nothing_left}
use Rattle.stm_core.specs.Client.{all_aborted}
use Rattle.load_run.specs.Several.{AllWithin, sum_of}
use Rattle.load_run.proofs.Gatherings.{gathered_one, gathered_more, sum_one, sum_on, took_in, aborted_one, aborted_more}
use Rattle.load_run.proofs.gathering.gather_all.Goals as goal

-- so many more workers have no more tasks
few_left : (n k t : ℕ) → k ≡ n → n < 64 → t ≤ 1000000 → t + k * 1000000 ≤ 65000000
few_left n k t e few one = omega arith

few_both : (t u k : ℕ) → u ≤ 1000000 → t + k * 1000000 ≤ 65000000 → t + u < 2 ^ 43
few_both t u k one few = omega arith

few_more : (t u v : Outcomes) (k k' : ℕ) → v ≡ plus t u → k' + 1 ≡ k → total u ≤ 1000000 →
    total t + k * 1000000 ≤ 65000000 → total v + k' * 1000000 ≤ 65000000
few_more t u v k k' e less one few = let q : total v ≡ total (plus t u) = ap (λ (x : Outcomes). total x) e in
    omega arith

pub loop-worker-init : goal.loop-worker-init
loop-worker-init g c =
    let made = c.into_iter-worker-iterator.ensures.into_iter_gives in
    let pushed = c.push_reserved.ensures in
    record {
      all = sym made.0;
      manager = refl;
      grants = ap (λ (k : ℕ). c.args.crew.first.caller.user.value.grants + k) made.1 ∙ c.requires.can.grants;
      others = all_same (IsMember c.args.crew.first) c.args.crew.others.items
          (into_iter_items c.into_iter-worker-iterator.result) made.0 c.requires.can.others;
      tries = refl;
      attempts = sum_one (λ w. w.counts.attempts) c.args.crew.first;
      aborted = aborted_one (λ w. all_aborted w.caller.user.value) c.args.crew.first;
      gathered = gathered_one (λ w. w.caller.user.value.records) (λ w. w.counts.outcomes) c.args.crew.first;
      handed = paired_step (λ w slot. slot ≡ w.slot) []
          c.args.slots.items c.push_reserved.new.self.items c.args.crew.first c.args.crew.first.slot pushed.items
          (paired_none (λ w slot. slot ≡ w.slot) c.args.slots.items
          c.requires.empty) refl;
      room = room_left c.args.crew.others.len (into_iter_len c.into_iter-worker-iterator.result) c.args.slots.len
          c.push_reserved.new.self.len c.args.slots.cap c.push_reserved.new.self.cap made.1 pushed.len pushed.capacity
          (search rules) c.requires.room;
      bound = few_left c.args.crew.others.len (into_iter_len c.into_iter-worker-iterator.result)
          (total c.args.crew.first.counts.outcomes) made.1 c.requires.can.few c.requires.can.tasks;
    }

pub gather-requires : goal.gather-requires
gather-requires g c =
    let one = all_first (IsMember c.args.crew.first) (into_iter_items c.loop-worker.worker-iterator)
    (into_iter_items c.next.new.self) c.in-Some.worker c.in-Some.ensures.steps.0 c.loop-worker.invariant.others in
    record { own = ap (λ (m : RegionShown). m.table) (one.one ∙ sym c.loop-worker.invariant.manager) }

pub plus-counts-requires : goal.plus-counts-requires
plus-counts-requires g c =
    let one = all_first (IsMember c.args.crew.first) (into_iter_items c.loop-worker.worker-iterator)
    (into_iter_items c.next.new.self) c.in-Some.worker c.in-Some.ensures.steps.0 c.loop-worker.invariant.others in
    record {
      fits = few_both (total c.loop-worker.counts.outcomes) (total c.in-Some.worker.counts.outcomes) (into_iter_len
          c.loop-worker.worker-iterator) one.tasks c.loop-worker.invariant.bound;
      same = one.tries ∙ sym c.loop-worker.invariant.tries;
    }

pub loop-worker-preserved : goal.loop-worker-preserved
loop-worker-preserved g c =
    let i = c.loop-worker.invariant in
    let split = c.in-Some.ensures.steps.0 in
    let less = c.in-Some.ensures.steps.1 in
    let pushed = c.push_reserved-in-loop-worker.ensures in
    let taken = took_in c.loop-worker.caller c.in-Some.worker.caller c.gather.new.self c.gather.ensures.caller
    in
    let one = all_first (IsMember c.args.crew.first) (into_iter_items c.loop-worker.worker-iterator)
    (into_iter_items c.next.new.self) c.in-Some.worker split i.others in
    record {
      all = one_on c.args.crew.others.items c.loop-worker.yielded (into_iter_items c.loop-worker.worker-iterator)
          (into_iter_items c.next.new.self) c.in-Some.worker i.all split;
      manager = taken.manager ∙ i.manager;
      grants = held_back c.loop-worker.caller.user.value.grants c.in-Some.worker.caller.user.value.grants
          c.gather.new.self.user.value.grants (into_iter_len c.loop-worker.worker-iterator)
          (into_iter_len c.next.new.self) less one.grants taken.grants i.grants;
      others = all_but_first (IsMember c.args.crew.first) (into_iter_items c.loop-worker.worker-iterator)
          (into_iter_items c.next.new.self) c.in-Some.worker split i.others;
      tries = ap (λ (x : TaskCountsShown). x.tries) c.plus-counts.ensures ∙ i.tries;
      attempts = sum_on (λ w. w.counts.attempts) c.args.crew.first c.loop-worker.yielded c.in-Some.worker
          c.loop-worker.counts.attempts c.plus-counts.result.attempts i.attempts
          (ap (λ (x : TaskCountsShown). x.attempts) c.plus-counts.ensures);
      aborted = aborted_more (λ w. all_aborted w.caller.user.value) (c.args.crew.first ∷ c.loop-worker.yielded)
          c.in-Some.worker (all_aborted c.loop-worker.caller.user.value) (all_aborted c.gather.new.self.user.value)
          i.aborted taken.mine taken.theirs;
      gathered = gathered_more (λ w. w.caller.user.value.records)
          (λ w. w.counts.outcomes) c.args.crew.first c.loop-worker.yielded c.in-Some.worker
          c.loop-worker.caller.user.value c.gather.new.self.user.value c.loop-worker.counts.outcomes
          c.plus-counts.result.outcomes
          i.gathered taken.records (ap (λ (x : TaskCountsShown). x.outcomes) c.plus-counts.ensures);
      handed = paired_step (λ w slot. slot ≡ w.slot)
          (c.args.crew.first ∷ c.loop-worker.yielded) c.loop-worker.slots.items
          c.push_reserved-in-loop-worker.new.self.items c.in-Some.worker c.in-Some.worker.slot pushed.items
          i.handed refl;
      room = room_taken c.loop-worker.slots.len c.push_reserved-in-loop-worker.new.self.len
          (into_iter_len c.loop-worker.worker-iterator) (into_iter_len c.next.new.self) c.loop-worker.slots.cap
          c.push_reserved-in-loop-worker.new.self.cap less pushed.len pushed.capacity i.room;
      bound = few_more c.loop-worker.counts.outcomes c.in-Some.worker.counts.outcomes
          c.plus-counts.result.outcomes
          (into_iter_len c.loop-worker.worker-iterator) (into_iter_len c.next.new.self)
          (ap (λ (x : TaskCountsShown). x.outcomes) c.plus-counts.ensures) less one.tasks i.bound;
    }

pub returns-clause-gathered : goal.returns-clause-gathered
returns-clause-gathered g c =
    rw c.into_user.ensures.user (subst (λ (l : List _). Gathered (λ w. w.caller.user.value.records)
    (λ w. w.counts.outcomes) c.args.crew.first l c.loop-worker.caller.user.value.records
    c.loop-worker.counts.outcomes)
    (all_met c.args.crew.others.items c.loop-worker.yielded (into_iter_items c.loop-worker.worker-iterator)
    c.loop-worker.invariant.all (nothing_left c.loop-worker.worker-iterator c.in-None.ensures.steps.0))
    c.loop-worker.invariant.gathered)

pub returns-clause-attempts : goal.returns-clause-attempts
returns-clause-attempts g c =
    subst (λ (l : List _). c.loop-worker.counts.attempts ≡ sum_of (λ w. w.counts.attempts)
    (c.args.crew.first ∷ l))
    (all_met c.args.crew.others.items c.loop-worker.yielded (into_iter_items c.loop-worker.worker-iterator)
    c.loop-worker.invariant.all (nothing_left c.loop-worker.worker-iterator c.in-None.ensures.steps.0))
    c.loop-worker.invariant.attempts

pub returns-clause-slots : goal.returns-clause-slots
returns-clause-slots g c =
    subst (λ (l : List _). Paired (λ w slot. slot ≡ w.slot)
    (c.args.crew.first ∷ l) c.loop-worker.slots.items)
    (all_met c.args.crew.others.items c.loop-worker.yielded (into_iter_items c.loop-worker.worker-iterator)
    c.loop-worker.invariant.all (nothing_left c.loop-worker.worker-iterator c.in-None.ensures.steps.0))
    c.loop-worker.invariant.handed

pub returns-clause-aborted : goal.returns-clause-aborted
returns-clause-aborted g c =
    rw c.into_user.ensures.user (subst (λ (l : List _). AllWithin (λ w. all_aborted w.caller.user.value)
    (c.args.crew.first ∷ l) (all_aborted c.loop-worker.caller.user.value))
    (all_met c.args.crew.others.items c.loop-worker.yielded (into_iter_items c.loop-worker.worker-iterator)
    c.loop-worker.invariant.all (nothing_left c.loop-worker.worker-iterator c.in-None.ensures.steps.0))
    c.loop-worker.invariant.aborted)
