use Rattle.vac_tasks.proofs.Parts.{if_ok, ran_one}
use Rattle.vac_tasks.proofs.tasks.read_task.Goals as goal

pub returns-clause-answer : goal.returns-clause-answer
returns-clause-answer g c = rw c.in-One.is (if_ok _ _ _ (λ r asked. ran_one _ _ _ r asked.ran)
    c.read_command.ensures.answer)
