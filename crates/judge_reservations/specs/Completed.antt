-- The part of a completed task on a scope: a task with the text of its reply, or nothing. A pending
-- call whose reply is known has the same part, which is pending too.
use Rattle.std.specs.Prelude.{ℕ, Bool, true, not, ◌||◌, Option, List}
use Rattle.std.specs.Option.{option_map}
use Rattle.vac_model.specs.declared.replies.Reply.TheVariants as reply
use Rattle.vac_model.specs.declared.tasks.Task.{Task}
use Rattle.vac_model.specs.declared.tasks.Task.TheVariants as task
use Rattle.judge_reservations.specs.declared.answers.AnsweredTask.{AnsweredTask}
use Rattle.judge_reservations.specs.declared.scope.Scope.{Scope}
use Rattle.judge_reservations.specs.Tasks.{Answered, is_reply, command_part, command_allowed, leave_part}
use Rattle.judge_reservations.specs.Trips.{trip_part, trip_fits}
use Rattle.judge_reservations.specs.Updates.{update_part}

-- a task with the text of its reply, as code has it
abbrev pub made : Option AnsweredTask → Option Answered
made a = option_map (λ x. (x.task, x.text.items)) a

-- the part of a completed task
abbrev pub task_part : Scope → Task → List ℕ → Option Answered
task_part scope (task.One c) text = command_part scope c text
task_part scope (task.Trip customer asks) text = trip_part scope customer asks text
task_part scope (task.Leave customer) text = leave_part scope customer text
task_part scope (task.Update changes) text = update_part scope changes text

-- tests if all bookings of a completed task leave closed items closed and whole customers whole
abbrev pub answer_fits : Scope → Task → List ℕ → Bool
answer_fits scope (task.One c) text = not (is_reply reply.Done text) || command_allowed scope c
answer_fits scope (task.Trip customer asks) text = trip_fits scope customer text
answer_fits scope (task.Leave customer) text = true
answer_fits scope (task.Update changes) text = true
