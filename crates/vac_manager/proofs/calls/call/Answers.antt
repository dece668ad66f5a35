use Rattle.std.proofs.Common.{rules}
use Rattle.vac_manager.proofs.Calling.{not_asked, has_called, same_client}
use Rattle.vac_manager.proofs.Openings.{of_object}
use Rattle.vac_manager.proofs.calls.call.Goals as goal

pub returns-then-not-can_ask-clause-called : goal.returns-then-not-can_ask-clause-called
returns-then-not-can_ask-clause-called c = not_asked c.args.caller.now.shared c.args.task.now c.args.tries _
    (search rules) c.own.ensures.at_rest.free_handed

pub returns-clause-called : goal.returns-clause-called
returns-clause-called c = rw c.reply_of.ensures
    (has_called c.args.caller.now.shared c.args.task.now c.args.tries c.call.result
    c.args.caller.now.user c.call.new.self.user (of_object _ c.own.ensures.at_rest.opened) (search rules)
    (same_client c.args.caller.now c.call.new.self c.call.ensures.caller)
    c.call.ensures.call)
