use Rattle.vac_tasks.proofs.Parts.{asked_report}
use Rattle.vac_tasks.proofs.commands.read_command.Goals as goal

pub returns-in_ok-report-in-Audit-clause-answer : goal.returns-in_ok-report-in-Audit-clause-answer
returns-in_ok-report-in-Audit-clause-answer g c = rw c.in-Audit.is
    (asked_report _ _ _ c.in_ok-report-in-Audit.ensures.answer)
