-- Statements on the lines of drawn tasks.
use Rattle.std.specs.Prelude.{◌≡◌, ◌≤◌, ℕ, List, Some, Ok, All, length, true}
use Rattle.vac_model.specs.declared.commands.Command.{Command}
use Rattle.vac_model.specs.declared.tasks.Task.{Task}
use Rattle.vac_model.specs.declared.tasks.Task.TheVariants as task
use Rattle.vac_model.specs.Ranges.{is_task}
use Rattle.load_tasks.specs.declared.settings.Settings.{Settings}
use Rattle.load_tasks.specs.Draws.{times_over}
use Rattle.load_tasks.specs.Setting.{is_settings}
use Rattle.load_tasks.specs.Tasks.{task_of, opening}
use Rattle.vac_lines.specs.declared.line.TheConstants.{LINE_BYTES}
use Rattle.vac_lines.specs.LineTable.{line_task}
use Rattle.vac_model.specs.TaskText.{task_text}
use Rattle.load_tasks.specs.Worklist.{IsTasksText}

-- a load with these settings has exactly one text of its tasks
pub record HasOneText (s : Settings) : Type 0 where
  pub text : List ℕ
  pub is : IsTasksText s text
  pub only : (other : List ℕ) → IsTasksText s other → other ≡ text

-- every load, whatever its settings, has exactly one text of its tasks
abbrev pub TasksHaveOneText : Type 0
TasksHaveOneText = (s : Settings) → HasOneText s

-- the task is valid, its line is no longer than a line may be, and the line is read as that task
pub record IsReadBack (t : Task) : Type 0 where
  pub range : is_task t ≡ true
  pub fits : length (task_text t) ≤ LINE_BYTES
  pub read : line_task (task_text t) ≡ Ok t

-- the line of each command of the setup phase, and of each task of a client, is no longer than a
-- line may be and is read as that task, whatever words are drawn
pub record AreReadBack (s : Settings) : Type 0 where
  pub of_opening : (words rest : List ℕ) (commands : List Command)
      → opening s words ≡ Some (commands, rest) → All (λ c. IsReadBack (task.One c)) commands
  pub of_client : (n : ℕ) (words rest : List ℕ) (tasks : List Task)
      → times_over n (task_of s) words ≡ Some (tasks, rest) → All IsReadBack tasks

-- if the settings are valid, the lines of all drawn tasks are read back
abbrev pub DrawnLinesAreRead : Type 0
DrawnLinesAreRead = (s : Settings) → is_settings s ≡ true → AreReadBack s
