use Rattle.std.proofs.Common.{rules}
use Rattle.std.proofs.Crossing.{crosses}
use denote.Param.Send.{sendable}
use Rattle.load_run.proofs.plan.fn.Plan.start.run+FnOnce.call_once.Goals as goal

-- workers may go to another thread
pub run-requires : goal.run-requires
run-requires g c = search (rules, sendable, crosses) depth 60
