use Rattle.cli_script.proofs.Checking.{flawed_as, no_heap_as}
use Rattle.cli_script.proofs.check.judge.Goals as goal

pub returns-in-Err-Flaw : goal.returns-in-Err-Flaw
returns-in-Err-Flaw c =
    flawed_as c.args.words.now c.in-Err-Flaw.field-0 c.in-Err-Flaw.flaw c.in-Err-Flaw.field-0-is
    c.in-Err-Flaw.ensures.size c.in-Err-Flaw.ensures.audited c.in-Err-Flaw.ensures.recognised

pub returns-in-Err-Size : goal.returns-in-Err-Size
returns-in-Err-Size c =
    no_heap_as c.args.words.now c.in-Err-Size.field-0 c.in-Err-Size.field-0-is c.in-Err-Size.ensures.audited
    c.in-Err-Size.ensures.recognised
