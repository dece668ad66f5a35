use Rattle.vac_manager.proofs.Lawful.{holds}
use Rattle.vac_manager.proofs.work.TaskBodyBodyVacation.run.Goals as goal

pub run_task-requires-clause-state : goal.run_task-requires-clause-state
run_task-requires-clause-state g c = holds _ c.requires.value
