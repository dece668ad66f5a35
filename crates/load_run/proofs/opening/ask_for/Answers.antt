use Rattle.std.proofs.Common.{refl, ◌∙◌}
use Rattle.vac_model.specs.declared.tasks.Task.TheVariants.{One}
use Rattle.load_run.proofs.Asked.{asked_recorded, command_answered, command_refused, traced_by}
use Rattle.load_run.proofs.opening.ask_for.Goals as goal

pub returns-clause-answered : goal.returns-clause-answered
returns-clause-answered g c = command_answered c.args.command _ c.args.caller.now c.trace_call-end.new.caller _ _ _
    c.requires.alone (asked_recorded c.args.caller.now.shared (One c.args.command) 1 c.trace_call-end.result
    c.record_call.result _ c.args.caller.now.user c.trace_call-end.new.caller.user _ _ _ c.requires.range refl
    c.trace_call-end.ensures.called (traced_by _ _ _ _ _ _ _ _ _ _ _ _ _
    (c.lend-tracer.ensures.time ∙ c.begin.ensures.time) c.take_back.ensures.time
    (c.lend-tracer.ensures.traced ∙ c.begin.ensures.traced) c.take_back.ensures.traced c.trace_call-end.ensures.traced)
    (c.take_back.ensures.same ∙ (c.lend-tracer.ensures.same ∙ c.begin.ensures.same)) c.record_call.ensures)

pub returns-clause-refused : goal.returns-clause-refused
returns-clause-refused g c = command_refused c.args.command _ c.args.caller.now c.trace_call-end.new.caller _ _ _
    c.requires.alone (asked_recorded c.args.caller.now.shared (One c.args.command) 1 c.trace_call-end.result
    c.record_call.result _ c.args.caller.now.user c.trace_call-end.new.caller.user _ _ _ c.requires.range refl
    c.trace_call-end.ensures.called (traced_by _ _ _ _ _ _ _ _ _ _ _ _ _
    (c.lend-tracer.ensures.time ∙ c.begin.ensures.time) c.take_back.ensures.time
    (c.lend-tracer.ensures.traced ∙ c.begin.ensures.traced) c.take_back.ensures.traced c.trace_call-end.ensures.traced)
    (c.take_back.ensures.same ∙ (c.lend-tracer.ensures.same ∙ c.begin.ensures.same)) c.record_call.ensures)
