use Rattle.std.proofs.Common.{rules}
use denote.Param.Send.{sendable}
use Rattle.std.proofs.Crossing.{crosses}
use Rattle.load_record.proofs.journal.CallRecorder.TheSendSync as journal
use Rattle.load_record.proofs.watch.ElapsedClock.TheSendSync as since
use Rattle.stm_object.proofs.tracer.Untraced.TheSendSync as untraced
use Rattle.cli_main.proofs.load.LoadRequest.note.Goals as goal

pub keep-requires : goal.keep-requires
keep-requires g c κs =
    search (rules, sendable, crosses, journal.the_send, since.the_send, untraced.the_send) depth 14
