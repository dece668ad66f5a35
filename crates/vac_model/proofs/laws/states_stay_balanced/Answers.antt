use Rattle.std.proofs.Common.{arith}
use Rattle.vac_model.proofs.Empty.{empty-balanced}
use Rattle.vac_model.proofs.TasksKept.{run_keeps}
use Rattle.vac_model.proofs.laws.states_stay_balanced.Goals as goal

pub returns-clause-empty : goal.returns-clause-empty
returns-clause-empty c = empty-balanced

pub returns-clause-balanced : goal.returns-clause-balanced
returns-clause-balanced c = λ s t b e. (run_keeps s t b e).balanced

pub returns-clause-capacity : goal.returns-clause-capacity
returns-clause-capacity c = λ s t b e. (run_keeps s t b e).capacity

pub returns-clause-size : goal.returns-clause-size
returns-clause-size c = λ s t b e. let k = run_keeps s t b e in omega (arith, k.balanced.room, k.capacity)
