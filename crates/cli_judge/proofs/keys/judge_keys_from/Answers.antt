use Rattle.std.proofs.Common.{refl, false}
use Rattle.judge_text.specs.Starts.{start_of}
use Rattle.cli_judge.proofs.Stores.{keys_given, file_fault, file_stopped}
use Rattle.cli_judge.proofs.keys.judge_keys_from.Goals as goal

pub returns-in-Ok-Given-clause-judged : goal.returns-in-Ok-Given-clause-judged
returns-in-Ok-Given-clause-judged g c =
    keys_given c.in-Ok-Given.field-0 c.in-Ok-Given.starts (g.S.Read.remaining c.args.file.now)
    (g.S.Read.remaining c.read_start.new.file) c.in-Ok-Given.field-0-is c.in-Ok-Given.ensures
    c.judge_objects.ensures.judged

pub returns-in-Ok-Fault-clause-judged : goal.returns-in-Ok-Fault-clause-judged
returns-in-Ok-Fault-clause-judged g c =
    file_fault false (λ s. start_of s) c.in-Ok-Fault.field-0 c.in-Ok-Fault.number c.in-Ok-Fault.fault
    (g.S.Read.remaining c.args.file.now) (g.S.Read.remaining c.read_start.new.file) c.in-Ok-Fault.field-0-is
    c.in-Ok-Fault.ensures refl c.name_fault.ensures

pub returns-in-Err-clause-judged : goal.returns-in-Err-clause-judged
returns-in-Err-clause-judged g c =
    file_stopped false (g.S.Read.remaining c.args.file.now) c.in-Err.fault refl c.end_by.ensures.status
    c.end_by.ensures.line
