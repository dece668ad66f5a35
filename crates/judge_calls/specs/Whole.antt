-- Checked against a workload, a history is legal if and only if it is a legal history in which
-- each client submitted exactly its tasks.
use Rattle.std.specs.Prelude.{◌≡◌, ◌↔◌, ℕ, ◌==◌, true, false, Ok, List, [], ◌∷◌, ◌++◌, map, if◌then◌else◌}
use Rattle.vac_model.specs.declared.tasks.Task.{Task}
use Rattle.vac_lines.specs.Lines.{lines_of}
use Rattle.vac_model.specs.TaskText.{task_text}
use Rattle.judge_calls.specs.Call.{Call}
use Rattle.judge_calls.specs.Laws.{IsLinearization, Lists}
use Rattle.judge_calls.specs.Work.{Asked, line_asked, tasks_of, has_stopped, workload_verdict, is_whole}

-- the tasks that the calls of a client submit, in their order
abbrev pub asked_by : ℕ → List Call → List Task
asked_by client [] = []
asked_by client (call ∷ calls) =
    if call.client == client then call.op ∷ asked_by client calls else asked_by client calls

-- the plain forms of tasks
abbrev pub forms : List Task → List (List ℕ)
forms tasks = map task_text tasks

-- the calls of a client submit its tasks in their order: all tasks, or the first tasks if one of
-- the calls is pending
-- Not said: that the tasks are the same. Only their plain forms are.
pub record IsDoneBy (client : ℕ) (work : List Asked) (calls : List Call) : Type 0 where
  pub left : List (List ℕ)
  pub done : forms (tasks_of client work) ≡ forms (asked_by client calls) ++ left
  pub all : has_stopped client calls ≡ false → left ≡ []

-- each line of the workload gives a task, each line of the history is a call, the order of the
-- calls is a linearization, and the calls of each client submit its tasks
pub record IsWholeHistory (n : ℕ) (tasks bytes : List ℕ) : Type 0 where
  pub work : List Asked
  pub calls : List Call
  pub handed : map line_asked (lines_of tasks) ≡ map Ok work
  pub listed : Lists bytes calls
  pub linearization : IsLinearization n calls
  pub done : (client : ℕ) → IsDoneBy client work calls

-- the verdict on a history and a workload is legal if and only if the history is legal and covers
-- the workload
abbrev pub LegalIsWhole : Type 0
LegalIsWhole = (n : ℕ) (tasks bytes : List ℕ) →
    (is_whole (workload_verdict n tasks bytes) ≡ true) ↔ IsWholeHistory n tasks bytes
