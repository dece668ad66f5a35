-- The tasks that only read.
use Rattle.std.specs.Prelude.{Bool, true, false}
use Rattle.vac_model.specs.declared.commands.Command.{Command}
use Rattle.vac_model.specs.declared.commands.Command.TheVariants as command
use Rattle.vac_model.specs.declared.tasks.Task.{Task}
use Rattle.vac_model.specs.declared.tasks.Task.TheVariants as task

-- true if the command is a question, which changes nothing
abbrev pub is_question : Command → Bool
is_question (command.Add kind id num price) = false
is_question (command.Delete kind id num) = false
is_question (command.DropFlight id) = false
is_question (command.NewCustomer id) = false
is_question (command.DropCustomer id) = false
is_question (command.Free kind id) = true
is_question (command.Price kind id) = true
is_question (command.Bill id) = true
is_question (command.Reserve customer kind id num) = false
is_question (command.Cancel customer kind id) = false
is_question command.Audit = true

-- true if the task is a single question
abbrev pub only_reads : Task → Bool
only_reads (task.One c) = is_question c
only_reads (task.Trip customer asks) = false
only_reads (task.Leave customer) = false
only_reads (task.Update changes) = false
