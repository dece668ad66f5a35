use Rattle.std.proofs.Common.{◌≡◌, ◌≤◌, ◌+◌, ◌++◌, [], All, vec_len, vec_capacity}
use Rattle.stm_core.specs.declared.limits.TheConstants.{MOST_GRANTS}
use Rattle.std.specs.Vec.Iter.{into_iter_items, into_iter_len}
use Rattle.stm_core.specs.Client.{all_aborted}
use Rattle.load_run.specs.Lists.{Paired}
use Rattle.load_run.specs.Attempted.{uncounted}
use Rattle.load_run.specs.Load.{IsWorker}
use Rattle.load_run.proofs.gathering.split_crew.Given as goal

abbrev pub invariant-loop-another : goal.invariant-loop-another
invariant-loop-another g l = record {
  all : into_iter_items l.initial.another-iterator ≡ l.yielded ++ into_iter_items l.another-iterator;
  manager : l.caller.shared ≡ l.fn.caller.shared;
  records : l.caller.user.value.records ≡ l.fn.caller.user.value.records;
  floor : l.caller.user.value.floor ≡ l.fn.caller.user.value.floor;
  aborted : all_aborted l.caller.user.value ≡ all_aborted l.fn.caller.user.value;
  grants : l.caller.user.value.grants + vec_len l.others ≡ MOST_GRANTS;
  others_grants : All (λ w. w.caller.user.value.grants ≡ 0) l.others.items;
  tallies : All (λ w. w.counts ≡ uncounted l.fn.tries) l.others.items;
  count : vec_len l.others + into_iter_len l.another-iterator + 1 ≡ vec_len l.fn.slots;
  room : vec_len l.others + into_iter_len l.another-iterator ≤ vec_capacity l.others;
  crew : Paired (IsWorker l.fn.caller.shared [] l.fn.caller.user.value.floor) l.yielded l.others.items;
}
