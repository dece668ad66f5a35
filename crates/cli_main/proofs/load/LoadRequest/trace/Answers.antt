use Rattle.std.proofs.Common.{rules}
use denote.Param.Send.{sendable}
use Rattle.std.proofs.Crossing.{crosses}
use Rattle.load_record.proofs.ledger.AttemptRecorder.TheSendSync as ledger
use Rattle.load_record.proofs.trail.AttemptTracer.TheSendSync as trail
use Rattle.load_record.proofs.watch.ElapsedClock.TheSendSync as since
use Rattle.cli_main.proofs.load.LoadRequest.trace.Goals as goal

pub keep-requires : goal.keep-requires
keep-requires g c κs =
    search (rules, sendable, crosses, ledger.the_send, trail.the_send, since.the_send) depth 14
