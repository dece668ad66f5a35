use Rattle.std.proofs.Common.{rules}
use Rattle.std.proofs.Crossing.{crosses}
use denote.Param.Send.{sendable}
use Rattle.load_run.proofs.plan.fn.Plan.run_round.scope+FnOnce.call_once.Goals as goal

-- crews may go to another thread
pub scope-requires : goal.scope-requires
scope-requires g c = search (rules, sendable, crosses) depth 60
