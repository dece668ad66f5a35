use Rattle.std.proofs.Common.{Ok}
use Rattle.std.specs.Prelude.{◌≡◌, ◌⊎◌}
use Rattle.vac_manager.specs.Called.{HasAllGrants}
use Rattle.stm_object.specs.Callers.{GoesOn}
use Rattle.load_tasks.specs.Draws.{for_each}
use Rattle.load_tasks.specs.Tasks.{stocks}
use Rattle.load_run.specs.Keeping.{HasKeptAdded, contents}
use Rattle.load_run.specs.Opening.{IsAnswered, RanOrStopped}
use Rattle.load_run.proofs.Opened.{Opening}
use Rattle.load_run.proofs.opening.open_kept.Given as goal

abbrev pub invariant-items : goal.invariant-items
invariant-items g l = record {
  asked : RanOrStopped g.D.Draws.leads (for_each l.place stocks) (Ok tt) l.fn.caller l.caller l.fn.draws l.draws;
  kept : HasKeptAdded l.fn.caller.shared.renewal l.fn.caller.user.value l.caller.user.value
      (contents g.K.Recorder.notes g.K.Recorder.traced g.K.Recorder.latest l.fn.keep)
      (contents g.K.Recorder.notes g.K.Recorder.traced g.K.Recorder.latest l.keep);
}

abbrev pub invariant-customers : goal.invariant-customers
invariant-customers g l = record {
  caller : GoesOn l.fn.caller l.caller;
  grants : HasAllGrants l.caller.user.value;
  opening : Opening g.D.Draws.leads l.fn.caller.shared.renewal l.fn.settings.items l.place l.fn.caller.user.value
      l.caller.user.value l.fn.draws l.draws;
  kept : HasKeptAdded l.fn.caller.shared.renewal l.fn.caller.user.value l.caller.user.value
      (contents g.K.Recorder.notes g.K.Recorder.traced g.K.Recorder.latest l.fn.keep)
      (contents g.K.Recorder.notes g.K.Recorder.traced g.K.Recorder.latest l.keep);
  ready : (l.place ≡ 0) ⊎ IsAnswered l.fn.caller.shared l.caller.user.value;
}
