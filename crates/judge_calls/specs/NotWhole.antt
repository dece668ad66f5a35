-- A history that does not cover the workload: the line of the workload, the line of the history or
-- the task that the verdict names.
-- Not said: anything of a verdict that names none of these. If the history checked against the
-- workload is not legal for another reason, its verdict is that of the history alone.
use Rattle.std.specs.Prelude.{◌≡◌, ◌↔◌, ◌⊎◌, ℕ, ◌+◌, true, false, Result, Ok, Err, List, [], ◌∷◌, ◌++◌, map, length}
use Rattle.vac_lines.specs.Lines.{lines_of}
use Rattle.vac_model.specs.TaskText.{task_text}
use Rattle.judge_calls.specs.declared.fault.CallFault.{CallFault}
use Rattle.judge_calls.specs.declared.held.WorkloadVerdict.TheVariants.{BadTasks, Foreign, Missing}
use Rattle.judge_calls.specs.Call.{Call, line_call}
use Rattle.judge_calls.specs.Laws.{IsLinearization, Lists}
use Rattle.judge_calls.specs.Work.{Asked, line_asked, tasks_of, has_stopped, workload_verdict}
use Rattle.judge_calls.specs.Whole.{asked_by, forms}

-- each line of the workload gives a task, and the tasks are these
abbrev pub HandsOut : List ℕ → List Asked → Type 0
HandsOut tasks work = map line_asked (lines_of tasks) ≡ map Ok work

-- a line of the workload gives no task, and each line before it gives one
-- Not said: which fault the line has.
pub record IsFirstWithoutTask (tasks : List ℕ) (line : ℕ) : Type 0 where
  pub before : List Asked
  pub fault : CallFault
  pub rest : List (Result Asked CallFault)
  pub handed : map line_asked (lines_of tasks) ≡ map Ok before ++ Err fault ∷ rest
  pub number : line ≡ length before + 1

-- the verdict names a line of the workload if and only if that line is the first that gives no
-- task, whatever the history is
abbrev pub BadTasksIsFirst : Type 0
BadTasksIsFirst = (n : ℕ) (tasks bytes : List ℕ) (line : ℕ) →
    (workload_verdict n tasks bytes ≡ BadTasks line) ↔ IsFirstWithoutTask tasks line

-- the calls of a client submit the first tasks of the client, in their order
-- Not said: that the tasks are the same. Only their plain forms are.
abbrev pub AskForFirst : ℕ → List Asked → List Call → Type 0
AskForFirst client work calls = (left : List (List ℕ))
    × (forms (tasks_of client work) ≡ forms (asked_by client calls) ++ left)

-- the line is the first whose call does not submit the next task of its client. The lines before
-- it are calls whose order is a linearization, and each client submits its first tasks in them.
-- With the call of the line, its client does not submit its first tasks
-- Not said: that the call has no other fault. The task of a line is checked before its other
-- faults.
pub record IsFirstForeign (n : ℕ) (tasks bytes : List ℕ) (line : ℕ) : Type 0 where
  pub work : List Asked
  pub before : List Call
  pub call : Call
  pub rest : List (Result Call CallFault)
  pub handed : HandsOut tasks work
  pub listed : map line_call (lines_of bytes) ≡ map Ok before ++ Ok call ∷ rest
  pub number : line ≡ length before + 1
  pub legal : IsLinearization n before
  pub asked : (client : ℕ) → AskForFirst client work before
  pub foreign : AskForFirst call.client work (before ++ call ∷ []) → ⊥

-- the verdict names a line as foreign if and only if the line is the first whose call does not
-- submit the next task of its client
abbrev pub ForeignIsFirst : Type 0
ForeignIsFirst = (n : ℕ) (tasks bytes : List ℕ) (line : ℕ) →
    (workload_verdict n tasks bytes ≡ Foreign line) ↔ IsFirstForeign n tasks bytes line

-- some call submits the task that follows the earlier tasks of the workload: the call has the
-- client and the plain form of the task, and the client has as many earlier calls as earlier tasks
pub record AsksForTask (calls : List Call) (before : List Asked) (task : Asked) : Type 0 where
  pub earlier : List Call
  pub call : Call
  pub later : List Call
  pub split : calls ≡ earlier ++ call ∷ later
  pub client : call.client ≡ task.client
  pub place : length (asked_by task.client earlier) ≡ length (tasks_of task.client before)
  pub form : task_text call.op ≡ task_text task.task

-- some call submits the task, or the client of the task has a pending call
abbrev pub IsSettled : List Call → List Asked → Asked → Type 0
IsSettled calls before task =
    AsksForTask calls before task ⊎ (has_stopped task.client calls ≡ true)

-- no call submits the task, and the client of the task has no pending call
pub record IsLeftOut (calls : List Call) (before : List Asked) (task : Asked) : Type 0 where
  pub none : AsksForTask calls before task → ⊥
  pub answered : has_stopped task.client calls ≡ false

-- the task with this number of this client, counted from 1, is the first task of the workload that
-- is left out. The history is legal by itself, the calls of each client submit its first tasks,
-- and each earlier task of the workload is submitted or belongs to a client with a pending call
pub record IsFirstMissing (n : ℕ) (tasks bytes : List ℕ) (client number : ℕ) : Type 0 where
  pub work : List Asked
  pub calls : List Call
  pub handed : HandsOut tasks work
  pub listed : Lists bytes calls
  pub linearization : IsLinearization n calls
  pub asked : (one : ℕ) → AskForFirst one work calls
  pub before : List Asked
  pub task : Asked
  pub after : List Asked
  pub split : work ≡ before ++ task ∷ after
  pub owner : task.client ≡ client
  pub number_is : number ≡ length (tasks_of client before) + 1
  pub left_out : IsLeftOut calls before task
  pub settled : (first rest : List Asked) (one : Asked) → before ≡ first ++ one ∷ rest →
      IsSettled calls first one

-- the verdict names a client's task as missing if and only if that task is the first that is left
-- out
abbrev pub MissingIsFirst : Type 0
MissingIsFirst = (n : ℕ) (tasks bytes : List ℕ) (client number : ℕ) →
    (workload_verdict n tasks bytes ≡ Missing client number)
    ↔ IsFirstMissing n tasks bytes client number
