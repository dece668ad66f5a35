use Rattle.vac_tasks.proofs.Parts.{if_ok, ran_one}
use Rattle.vac_tasks.proofs.tasks.run_task.Goals as goal

pub run_command-requires : goal.run_command-requires
run_command-requires g c = record { state = c.requires.state; range = rw c.in-One.is at c.requires.range }

pub returns-in-One-clause-answer : goal.returns-in-One-clause-answer
returns-in-One-clause-answer g c = rw c.in-One.is (if_ok _ _ _
    (λ r ran. ran_one _ _ _ r ran) c.run_command.ensures.answer)
