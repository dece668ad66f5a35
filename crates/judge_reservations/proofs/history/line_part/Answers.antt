use Rattle.std.proofs.Common.{ap, sym, ◌∙◌}
use Rattle.judge_reservations.specs.Completed.{made}
use Rattle.judge_reservations.proofs.TaskRanges.{made_range, pending_range}
use Rattle.judge_reservations.proofs.history.line_part.Goals as goal

pub with_task-requires-clause-task : goal.with_task-requires-clause-task
with_task-requires-clause-task c =
    made_range c.args.scope.now c.in-Some-2.part c.task.result.now c.as_slice.result.now
    (ap made (sym c.in-Some-2.is) ∙ c.in_ok-part-in-Some.ensures)
    c.task.ensures.asked

pub with_task-requires-in-Some-pending_part-clause-task : goal.with_task-requires-in-Some-pending_part-clause-task
with_task-requires-in-Some-pending_part-clause-task c =
    pending_range c.args.scope.now c.in-Some-pending_part.task c.task-in-None.result.now
    (sym c.in-Some-pending_part.is ∙ c.pending_part.ensures)
    c.task-in-None.ensures.asked
