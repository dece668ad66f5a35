use Rattle.std.proofs.Common.{rules}
use Rattle.vac_manager.proofs.Calling.{not_asked_placed}
use Rattle.vac_manager.proofs.calls.trace_call.Goals as goal

pub returns-then-not-can_ask-clause-called : goal.returns-then-not-can_ask-clause-called
returns-then-not-can_ask-clause-called g c = not_asked_placed c.args.caller.now.shared c.args.task.now c.args.tries
    _ c.new.result (search rules) c.own.ensures.at_rest.free_handed (search rules)
