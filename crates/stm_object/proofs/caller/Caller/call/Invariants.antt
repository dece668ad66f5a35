use Rattle.std.proofs.Common.{◌≡◌, ◌≤◌}
use Rattle.stm_core.specs.Core.{IsFreeHanded}
use Rattle.stm_object.specs.History.{ConflictWasShown}
use Rattle.stm_object.specs.Object.{IsFitting}
use Rattle.stm_object.proofs.Stopping.{Trying}
use Rattle.stm_object.proofs.Tracing.{AllGivenUp}
use Rattle.stm_object.proofs.caller.Caller.call.Given as goal

abbrev pub invariant-tries : goal.invariant-tries
invariant-tries g l = record {
  own : l.user-inside.client.table ≡ l.shared-inside.region.table;
  table : l.user-inside.client.table ≡ l.initial.user-inside.client.table;
  mine : l.user-inside.own ≡ l.initial.user-inside.own;
  free : IsFreeHanded l.user-inside.client.value;
  some : 1 ≤ l.left;
  few : l.left ≤ l.tries;
  frame : g.T.Tracer.frame l.tracer ≡ g.T.Tracer.frame l.initial.tracer;
  later : g.T.Tracer.latest l.initial.tracer ≤ g.T.Tracer.latest l.tracer;
  trying : Trying (λ conflict v. ConflictWasShown g.S.Object.is l.shared-inside.region
      (λ a. g.B.Body.entry_of l.body a) (λ a. g.B.Body.changes l.body a) (g.B.Body.reads l.body) conflict v)
      (λ conflict t. g.T.Tracer.more conflict t) l.tries l.left l.initial.user-inside.client.value
      l.user-inside.client.value (g.T.Tracer.tally l.initial.tracer) (g.T.Tracer.tally l.tracer);
  traced : AllGivenUp (IsFitting g.S.Object.is) l.shared-inside.region l.initial.user-inside.client.value
      l.user-inside.client.value (g.T.Tracer.latest l.initial.tracer) (g.T.Tracer.latest l.tracer)
      (g.T.Tracer.ended l.initial.tracer) (g.T.Tracer.ended l.tracer);
}

abbrev pub decreases-tries : goal.decreases-tries
decreases-tries g l = l.left
