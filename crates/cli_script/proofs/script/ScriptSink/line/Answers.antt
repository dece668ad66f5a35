use Rattle.cli_script.proofs.Answering.{halted}
use Rattle.cli_script.proofs.script.ScriptSink.line.Goals as goal

pub returns-in-Err-Memory-call-clause-heard : goal.returns-in-Err-Memory-call-clause-heard
returns-in-Err-Memory-call-clause-heard g c = halted _ _ _ _ _ _ _ _ c.halt.ensures.err c.halt.ensures.written
