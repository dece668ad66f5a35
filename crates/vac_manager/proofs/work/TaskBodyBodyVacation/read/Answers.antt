use Rattle.vac_manager.proofs.Lawful.{holds}
use Rattle.vac_manager.proofs.work.TaskBodyBodyVacation.read.Goals as goal

pub read_task-requires-clause-state : goal.read_task-requires-clause-state
read_task-requires-clause-state g c = holds _ c.requires.value
