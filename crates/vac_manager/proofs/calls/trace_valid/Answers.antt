use Rattle.std.proofs.Common.{rules, sym}
use Rattle.vac_manager.proofs.Calling.{has_called_placed, with_effort, traced_as, same_client, few_tries}
use Rattle.vac_manager.proofs.Openings.{of_object}
use Rattle.vac_manager.proofs.calls.trace_valid.Goals as goal

pub returns-clause-called : goal.returns-clause-called
returns-clause-called g c = rw c.placed_of.ensures
    (with_effort c.args.caller.now.shared c.args.task.now c.args.tries _ c.call-answer.new.tracer.statistics.now _ _ _
    (has_called_placed c.args.caller.now.shared c.args.task.now c.args.tries c.call-answer.result
    c.call-answer.new.tracer.statistics.now c.args.caller.now.user c.call-answer.new.self.user
    (of_object _ c.own.ensures.at_rest.opened) c.requires.valid
    (few_tries c.args.task.now c.args.tries c.requires.valid)
    (same_client c.args.caller.now c.call-answer.new.self c.call-answer.ensures.caller)
    c.call-answer.ensures.call (rw (sym c.new.ensures) c.call-answer.ensures.tallied))
    (search rules))

pub returns-clause-traced : goal.returns-clause-traced
returns-clause-traced g c = rw c.placed_of.ensures
    (traced_as _ _ c.call-answer.result _ _ _ _ _ _ _ _ c.call-answer.ensures.traced (search rules) (search rules))
