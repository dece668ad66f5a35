-- Which plain lines of tasks are read as those tasks.
use Rattle.std.specs.Prelude.{◌≡◌, ◌≤◌, ◌^◌, ℕ, ◌&&◌, ◌||◌, Bool, true, false, nat_le, nat_lt}
use Rattle.std.specs.Prelude.{Option, Some, None, Ok, length}
use Rattle.std.specs.List.{list_all}
use Rattle.vac_model.specs.declared.commands.Command.{Command}
use Rattle.vac_model.specs.declared.commands.Command.TheVariants as command
use Rattle.vac_model.specs.declared.tasks.Task.{Task}
use Rattle.vac_model.specs.declared.tasks.Task.TheVariants as task
use Rattle.vac_model.specs.Ranges.{is_task}
use Rattle.vac_model.specs.TaskText.{task_text}
use Rattle.vac_lines.specs.declared.line.TheConstants.{LINE_BYTES}
use Rattle.vac_lines.specs.LineTable.{line_task}

-- the plain line of a valid task is read as that task, if it is no longer than a line may be
abbrev pub TaskTextsAreRead : Type 0
TaskTextsAreRead = (t : Task) → is_task t ≡ true → length (task_text t) ≤ LINE_BYTES
    → line_task (task_text t) ≡ Ok t

-- the largest number of changes with which every update fits into a line, whatever its numbers are
abbrev pub FITTING_CHANGES : ℕ
FITTING_CHANGES = 25

-- the largest number of digits of the numbers with which every update fits into a line, however
-- many changes it has
abbrev pub FITTING_DIGITS : ℕ
FITTING_DIGITS = 5

-- true if the number has at most that many digits
abbrev pub is_short : ℕ → Bool
is_short n = nat_lt n (10 ^ FITTING_DIGITS)

-- true if the price has at most that many digits, or there is none
abbrev pub is_short_price : Option ℕ → Bool
is_short_price None = true
is_short_price (Some price) = is_short price

-- true if the command is a change whose numbers have at most that many digits
abbrev pub is_short_change : Command → Bool
is_short_change (command.Add kind id num price) =
    is_short id && is_short num && is_short_price price
is_short_change (command.Delete kind id num) = is_short id && is_short num
is_short_change (command.DropFlight id) = is_short id
is_short_change _ = false

-- true for a task whose plain line fits into a line. Every task is one, except an update with many
-- changes and some long numbers
abbrev pub is_fitting : Task → Bool
is_fitting (task.Update changes) =
    nat_le (length changes) FITTING_CHANGES || list_all is_short_change changes
is_fitting _ = true

-- the plain line of a valid task that is fitting is no longer than a line may be
abbrev pub TaskTextsFit : Type 0
TaskTextsFit = (t : Task) → is_task t ≡ true → is_fitting t ≡ true
    → length (task_text t) ≤ LINE_BYTES
