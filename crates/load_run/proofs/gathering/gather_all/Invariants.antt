use Rattle.std.proofs.Common.{◌≡◌, ◌≤◌, ◌+◌, ◌*◌, ◌++◌, ◌∷◌, All, vec_len, vec_capacity}
use Rattle.stm_core.specs.declared.limits.TheConstants.{MOST_GRANTS}
use Rattle.std.specs.Vec.Iter.{into_iter_items, into_iter_len}
use Rattle.load_run.specs.Looping.{total}
use Rattle.load_run.specs.Lists.{Paired}
use Rattle.load_run.specs.Load.{Gathered, IsMember}
use Rattle.load_run.specs.Several.{AllWithin, sum_of}
use Rattle.stm_core.specs.Client.{all_aborted}
use Rattle.load_run.proofs.gathering.gather_all.Given as goal

abbrev pub invariant-loop-worker : goal.invariant-loop-worker
invariant-loop-worker g l = record {
  all : l.fn.crew.others.items ≡ l.yielded ++ into_iter_items l.worker-iterator;
  manager : l.caller.shared ≡ l.fn.crew.first.caller.shared;
  grants : l.caller.user.value.grants + into_iter_len l.worker-iterator ≡ MOST_GRANTS;
  others : All (IsMember l.fn.crew.first) (into_iter_items l.worker-iterator);
  tries : l.counts.tries ≡ l.fn.crew.first.counts.tries;
  attempts : l.counts.attempts ≡ sum_of (λ w. w.counts.attempts) (l.fn.crew.first ∷ l.yielded);
  gathered : Gathered (λ w. w.caller.user.value.records)
      (λ w. w.counts.outcomes) l.fn.crew.first l.yielded l.caller.user.value.records l.counts.outcomes;
  aborted : AllWithin (λ w. all_aborted w.caller.user.value) (l.fn.crew.first ∷ l.yielded)
      (all_aborted l.caller.user.value);
  handed : Paired (λ w slot. slot ≡ w.slot) (l.fn.crew.first ∷ l.yielded) l.slots.items;
  room : vec_len l.slots + into_iter_len l.worker-iterator ≤ vec_capacity l.slots;
  bound : total l.counts.outcomes + into_iter_len l.worker-iterator * 1000000 ≤ 65000000;
}
