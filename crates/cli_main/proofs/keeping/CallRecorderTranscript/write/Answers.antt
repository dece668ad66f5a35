use Rattle.std.proofs.Common.{rules}
use Rattle.cli_main.specs.Load.{WroteCalls, WroteCallsInPart}
use Rattle.cli_main.proofs.LoadEnds.{wrote_calls, wrote_calls_in_part, ended_writing}
use Rattle.cli_common.proofs.LastLines.{on_ok, on_err}
use Rattle.cli_main.proofs.keeping.CallRecorderTranscript.write.Goals as goal

pub returns : goal.returns
returns g c =
    let l = c.args.load.now in
    ended_writing WroteCalls WroteCallsInPart l.settings.now l.summary c.write_history-written.result c.end_done.result
    _ _ _
    (on_ok _ _ c.write_history-written.result (wrote_calls l.settings.now l.summary l.recorders.opening
    l.recorders.clients.items
    c.requires.fits c.requires.noted.calls _ _) (search rules))
    (on_err _ _ c.write_history-written.result (wrote_calls_in_part l.settings.now l.summary l.recorders.opening
    l.recorders.clients.items c.requires.fits c.requires.noted.calls _ _) (search rules))
    c.write_history-written.ensures.fault c.end_done.ensures
