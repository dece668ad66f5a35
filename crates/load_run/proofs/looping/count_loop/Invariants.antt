use Rattle.std.proofs.Common.{◌≡◌, ◌+◌}
use Rattle.stm_object.specs.Callers.{GoesOn}
use Rattle.load_run.specs.Keeping.{HasKeptAdded, contents}
use Rattle.load_run.specs.Looping.{Looped, Clocked}
use Rattle.vac_manager.specs.Called.{HasAllGrants}
use Rattle.load_run.proofs.looping.count_loop.Given as goal

abbrev pub invariant-tasks : goal.invariant-tasks
invariant-tasks g l = record {
  caller : GoesOn l.fn.caller l.caller;
  looped : Looped g.D.Draws.leads l.fn.settings l.fn.caller.shared.renewal l.counter l.fn.caller.user.value
      l.caller.user.value l.fn.draws l.draws l.counts.outcomes;
  clock : HasAllGrants l.fn.caller.user.value → Clocked l.fn.caller.shared.last l.fn.caller.user.value
      l.caller.user.value l.counts.outcomes;
  tries : l.counts.tries ≡ l.fn.settings.tries;
  attempts : l.fn.caller.user.value.attempt.number + l.counts.attempts ≡ l.caller.user.value.attempt.number;
  kept : HasKeptAdded l.fn.caller.shared.renewal l.fn.caller.user.value l.caller.user.value
      (contents g.K.Recorder.notes g.K.Recorder.traced g.K.Recorder.latest l.fn.keep)
      (contents g.K.Recorder.notes g.K.Recorder.traced g.K.Recorder.latest l.keep);
}
