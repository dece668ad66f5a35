use Rattle.std.proofs.Common.{rules, refl, ◌≡◌, ℕ, true, sym, ap, subst, ◌∙◌, Result, Err, IfOk, arith}
use Rattle.vac_model.specs.Ranges.{is_task}
use Rattle.vac_model.specs.declared.tasks.Task.{Task}
use Rattle.vac_manager.specs.declared.fault.Fault.TheVariants as fault
use Rattle.load_run.specs.Keeping.{RecorderContents, HasKeptAdded, contents}
use Rattle.load_run.proofs.Answering.{RanOne, looped_none, looped_more}
use Rattle.load_run.proofs.Asked.{asked_recorded, issued, issued_none, traced_by}
use Rattle.vac_manager.specs.declared.placed.CallStatistics.{CallStatistics}
use Rattle.load_run.specs.Attempted.{AreStatistics, TaskCountsShown, no_attempts, with_call}
use Rattle.load_run.specs.Looping.{Clocked, counted, nothing}
use Rattle.load_run.proofs.Clocking.{clocked_none, clocked_more}
use Rattle.load_run.proofs.Callers.{of_manager}
use Rattle.load_run.proofs.Notes.{kept_none, kept_both}
use Rattle.load_run.proofs.Ranges.{some_tries}
use Rattle.load_run.proofs.looping.count_loop.Goals as goal

pub tasks-init : goal.tasks-init
tasks-init g c = record {
  caller = refl;
  looped = rw c.new-counts.ensures (looped_none g.D.Draws.leads c.args.settings.now c.args.caller.now.shared.renewal
      c.args.caller.now.user.value c.args.draws.now);
  clock = λ _. rw c.new-counts.ensures (clocked_none c.args.caller.now.shared.last c.args.caller.now.user.value);
  tries = search rules;
  attempts = omega (arith, ap (λ (x : TaskCountsShown). x.attempts) c.new-counts.ensures);
  kept = kept_none _ _ _ _ refl;
}

pub tasks-preserved-in_default : goal.tasks-preserved-in_default
tasks-preserved-in_default g c =
    let i = issued_none c.tasks.caller.shared c.draw_task-drawn.result c.args.settings.now.tries c.new.result
    c.tasks.caller.user.value (contents g.K.Recorder.notes g.K.Recorder.traced g.K.Recorder.latest c.tasks.keep)
    (contents g.K.Recorder.notes g.K.Recorder.traced g.K.Recorder.latest c.with_room.new.keep)
    (some_tries c.args.settings.now c.requires.settings) c.new.ensures c.with_room.ensures.same in
    record {
      caller = c.tasks.invariant.caller;
      looped = rw c.count.ensures (looped_more g.D.Draws.leads c.args.settings.now c.args.caller.now.shared.renewal
          c.tasks.counter c.args.caller.now.user.value c.tasks.caller.user.value c.tasks.caller.user.value
          c.args.draws.now c.tasks.draws c.draw_task-drawn.new.draws c.tasks.counts.outcomes c.draw_task-drawn.result
          (Err fault.Memory) c.tasks.invariant.looped c.draw_task-drawn.ensures.drawn
          (of_manager (λ m. RanOne m.renewal c.draw_task-drawn.result c.args.settings.now.tries (Err fault.Memory)
          c.tasks.caller.user.value c.tasks.caller.user.value) c.args.caller.now c.tasks.caller
          c.tasks.invariant.caller i.one));
      clock = λ alone. rw c.count.ensures (clocked_more {R = Unit {0}} c.args.caller.now.shared.last (Err fault.Memory)
          c.args.caller.now.user.value c.tasks.caller.user.value c.tasks.caller.user.value c.tasks.counts.outcomes
          (c.tasks.invariant.clock alone)
          (of_manager (λ m. Clocked m.last c.tasks.caller.user.value c.tasks.caller.user.value
          (counted {R = Unit {0}} (Err fault.Memory) nothing)) c.args.caller.now c.tasks.caller
          c.tasks.invariant.caller (i.clock (c.tasks.invariant.looped.answered.grants ∙ alone))));
      tries = search rules;
      attempts = omega (
        arith,
        c.tasks.invariant.attempts,
        ap (λ (x : TaskCountsShown). x.attempts) c.count.ensures,
        ap (λ (x : CallStatistics). x.attempts) c.new.ensures,
      );
      kept = kept_both _ _ _ _ _ _ _ c.tasks.invariant.kept
          (of_manager (λ m. HasKeptAdded m.renewal c.tasks.caller.user.value c.tasks.caller.user.value
          (contents g.K.Recorder.notes g.K.Recorder.traced g.K.Recorder.latest c.tasks.keep)
          (contents g.K.Recorder.notes g.K.Recorder.traced g.K.Recorder.latest c.with_room.new.keep))
          c.args.caller.now c.tasks.caller
          c.tasks.invariant.caller i.kept);
    }

pub count-requires-in-tasks-clause-took : goal.count-requires-in-tasks-clause-took
count-requires-in-tasks-clause-took g c =
    let asked = asked_recorded c.tasks.caller.shared c.in-Ok.task c.args.settings.now.tries c.trace_valid-end.result
    c.record_call-end.result c.trace_valid-end.new.statistics c.tasks.caller.user c.trace_valid-end.new.caller.user
    (contents g.K.Recorder.notes g.K.Recorder.traced g.K.Recorder.latest c.tasks.keep) _
    (contents g.K.Recorder.notes g.K.Recorder.traced g.K.Recorder.latest c.record_call-end.new.keep)
    (subst (λ (x : Result Task _). IfOk x (λ t. is_task t ≡ true)) c.in-Ok.ensures.task c.draw_task-drawn.ensures.range)
    (some_tries c.args.settings.now c.requires.settings) c.trace_valid-end.ensures.called
    (traced_by _ _ _ _ _ _ _ _ _ _ _ _ _
    (c.lend-tracer.ensures.time ∙ ap (λ (k : RecorderContents). k.latest) c.with_room.ensures.same)
    c.take_back.ensures.time
    (c.lend-tracer.ensures.traced ∙ ap (λ (k : RecorderContents). k.traces) c.with_room.ensures.same)
    c.take_back.ensures.traced c.trace_valid-end.ensures.traced)
    (c.take_back.ensures.same ∙ (c.lend-tracer.ensures.same
    ∙ ap (λ (k : RecorderContents). k.calls) c.with_room.ensures.same)) c.record_call-end.ensures in
    let i = issued c.tasks.caller.shared c.draw_task-drawn.result c.in-Ok.task c.args.settings.now.tries
    c.record_call-end.result c.trace_valid-end.new.statistics c.tasks.caller.user.value
    c.trace_valid-end.new.caller.user.value _ _ c.in-Ok.ensures.task asked in
    subst (λ (n : ℕ). AreStatistics n (counted c.record_call-end.result nothing)
    (with_call c.trace_valid-end.new.statistics no_attempts)) (sym c.tasks.invariant.tries) i.took

pub tasks-preserved : goal.tasks-preserved
tasks-preserved g c =
    let asked = asked_recorded c.tasks.caller.shared c.in-Ok.task c.args.settings.now.tries c.trace_valid-end.result
    c.record_call-end.result c.trace_valid-end.new.statistics c.tasks.caller.user c.trace_valid-end.new.caller.user
    (contents g.K.Recorder.notes g.K.Recorder.traced g.K.Recorder.latest c.tasks.keep) _
    (contents g.K.Recorder.notes g.K.Recorder.traced g.K.Recorder.latest c.record_call-end.new.keep)
    (subst (λ (x : Result Task _). IfOk x (λ t. is_task t ≡ true)) c.in-Ok.ensures.task c.draw_task-drawn.ensures.range)
    (some_tries c.args.settings.now c.requires.settings) c.trace_valid-end.ensures.called
    (traced_by _ _ _ _ _ _ _ _ _ _ _ _ _
    (c.lend-tracer.ensures.time ∙ ap (λ (k : RecorderContents). k.latest) c.with_room.ensures.same)
    c.take_back.ensures.time
    (c.lend-tracer.ensures.traced ∙ ap (λ (k : RecorderContents). k.traces) c.with_room.ensures.same)
    c.take_back.ensures.traced c.trace_valid-end.ensures.traced)
    (c.take_back.ensures.same ∙ (c.lend-tracer.ensures.same
    ∙ ap (λ (k : RecorderContents). k.calls) c.with_room.ensures.same)) c.record_call-end.ensures in
    let i = issued c.tasks.caller.shared c.draw_task-drawn.result c.in-Ok.task c.args.settings.now.tries
    c.record_call-end.result c.trace_valid-end.new.statistics c.tasks.caller.user.value
    c.trace_valid-end.new.caller.user.value _ _ c.in-Ok.ensures.task asked in
    record {
      caller = search rules;
      looped = rw c.count-in-tasks.ensures (looped_more g.D.Draws.leads c.args.settings.now
          c.args.caller.now.shared.renewal c.tasks.counter c.args.caller.now.user.value c.tasks.caller.user.value
          c.trace_valid-end.new.caller.user.value
          c.args.draws.now c.tasks.draws c.draw_task-drawn.new.draws c.tasks.counts.outcomes c.draw_task-drawn.result
          c.record_call-end.result
          c.tasks.invariant.looped c.draw_task-drawn.ensures.drawn
          (of_manager (λ m. RanOne m.renewal c.draw_task-drawn.result c.args.settings.now.tries
          c.record_call-end.result
          c.tasks.caller.user.value c.trace_valid-end.new.caller.user.value) c.args.caller.now c.tasks.caller
          c.tasks.invariant.caller i.one));
      clock = λ alone. rw c.count-in-tasks.ensures (clocked_more c.args.caller.now.shared.last
          c.record_call-end.result
          c.args.caller.now.user.value c.tasks.caller.user.value c.trace_valid-end.new.caller.user.value
          c.tasks.counts.outcomes
          (c.tasks.invariant.clock alone)
          (of_manager (λ m. Clocked m.last c.tasks.caller.user.value c.trace_valid-end.new.caller.user.value
          (counted c.record_call-end.result nothing)) c.args.caller.now c.tasks.caller c.tasks.invariant.caller
          (i.clock (c.tasks.invariant.looped.answered.grants ∙ alone))));
      tries = search rules;
      attempts = omega (
        arith,
        c.tasks.invariant.attempts,
        ap (λ (x : TaskCountsShown). x.attempts) c.count-in-tasks.ensures,
        c.trace_valid-end.ensures.called.statistics.begun,
      );
      kept = kept_both _ _ _ _ _ _ _ c.tasks.invariant.kept
          (of_manager (λ m. HasKeptAdded m.renewal c.tasks.caller.user.value c.trace_valid-end.new.caller.user.value
          (contents g.K.Recorder.notes g.K.Recorder.traced g.K.Recorder.latest c.tasks.keep)
          (contents g.K.Recorder.notes g.K.Recorder.traced g.K.Recorder.latest c.record_call-end.new.keep))
          c.args.caller.now
          c.tasks.caller c.tasks.invariant.caller i.kept);
    }
