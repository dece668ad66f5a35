use Rattle.std.proofs.Common.{refl, true}
use Rattle.judge_kv.specs.Stores.{held_at}
use Rattle.cli_judge.proofs.Stores.{store_given, file_fault, file_stopped}
use Rattle.cli_judge.proofs.keys.judge_store_from.Goals as goal

pub returns-in-Ok-Given-clause-judged : goal.returns-in-Ok-Given-clause-judged
returns-in-Ok-Given-clause-judged g c =
    store_given c.in-Ok-Given.field-0 c.in-Ok-Given.store (g.S.Read.remaining c.args.file.now)
    (g.S.Read.remaining c.read_start.new.file) c.in-Ok-Given.field-0-is c.in-Ok-Given.ensures
    c.judge_store.ensures.judged

pub returns-in-Ok-Fault-clause-judged : goal.returns-in-Ok-Fault-clause-judged
returns-in-Ok-Fault-clause-judged g c =
    file_fault true (λ s key. held_at key s) c.in-Ok-Fault.field-0 c.in-Ok-Fault.number c.in-Ok-Fault.fault
    (g.S.Read.remaining c.args.file.now) (g.S.Read.remaining c.read_start.new.file) c.in-Ok-Fault.field-0-is
    c.in-Ok-Fault.ensures refl c.name_fault.ensures

pub returns-in-Err-clause-judged : goal.returns-in-Err-clause-judged
returns-in-Err-clause-judged g c =
    file_stopped true (g.S.Read.remaining c.args.file.now) c.in-Err.fault refl c.end_by.ensures.status
    c.end_by.ensures.line
