-- A history checked against a workload: the verdict on both, as a function of all their bytes. A
-- workload has lines CLIENT LINE; the lines of a client stand in the order in which its tasks were
-- given out.
use Rattle.std.specs.Prelude.{ℕ, ◌+◌, ◌==◌, ◌&&◌, Bool, true, false, not, Option, Some, None, Result, Ok, Err, List, [], ◌∷◌, ◌++◌, map, length, slice_get, nat_le, codes, decimal, if◌then◌else◌}
use Rattle.std.specs.List.{list_any}
use Rattle.std.specs.Str.{bytes_eq}
use Rattle.vac_model.specs.declared.tasks.Task.{Task}
use Rattle.vac_lines.specs.Lines.{lines_of, words_of}
use Rattle.vac_lines.specs.LineTable.{line_task}
use Rattle.vac_model.specs.TaskText.{task_text}
use Rattle.vac_lines.specs.Script.{as_line}
use Rattle.judge_object.specs.Call.{is_completed}
use Rattle.judge_calls.specs.declared.fault.CallFault.{CallFault}
use Rattle.judge_calls.specs.declared.fault.CallFault.TheVariants.{BadCall}
use Rattle.judge_calls.specs.declared.verdict.Verdict.{Verdict}
use Rattle.judge_calls.specs.declared.verdict.Verdict.TheVariants.{Legal, Fault, Illegal}
use Rattle.judge_calls.specs.declared.held.WorkloadVerdict.{WorkloadVerdict}
use Rattle.judge_calls.specs.declared.held.WorkloadVerdict.TheVariants.{BadTasks, Judged, Foreign, Missing}
use Rattle.judge_calls.specs.Call.{Call, ◌>>=◌, at_client, as_call_fault, joined_words, line_call}
use Rattle.judge_calls.specs.Verdict.{verdict_on, verdict_text, is_legal}

-- a task that was given to a client
pub record Asked : Type 0 where
  pub client : ℕ
  pub task : Task

-- the task that CLIENT and LINE give, or the first fault
abbrev pub text_asked : List ℕ → List ℕ → Result Asked CallFault
text_asked first line = do
  client ← at_client first
  task ← as_call_fault (line_task line)
  Ok (record { client = client; task = task })

-- the task that the words of a line give, or the first fault
abbrev pub words_asked : List (List ℕ) → Result Asked CallFault
words_asked (first ∷ word ∷ words) = text_asked first (joined_words (word ∷ words))
words_asked _ = Err BadCall

-- the task that a line gives, or its first fault
abbrev pub line_asked : List ℕ → Result Asked CallFault
line_asked line = words_asked (words_of line)

-- the workload with one more task in front; a faulty line is counted one line later
abbrev pub onto_work : Asked → Result (List Asked) ℕ → Result (List Asked) ℕ
onto_work asked (Ok work) = Ok (asked ∷ work)
onto_work asked (Err line) = Err (line + 1)

-- the tasks of the lines of a workload, or the number of the first line that gives no task
abbrev pub work_of : List (Result Asked CallFault) → Result (List Asked) ℕ
work_of [] = Ok []
work_of (Err fault ∷ rest) = Err 1
work_of (Ok asked ∷ rest) = onto_work asked (work_of rest)

-- the tasks of a client, in the order of the workload
abbrev pub tasks_of : ℕ → List Asked → List Task
tasks_of client [] = []
tasks_of client (asked ∷ work) =
    if asked.client == client then asked.task ∷ tasks_of client work else tasks_of client work

-- the number of calls that a client made
abbrev pub made_by : ℕ → List Call → ℕ
made_by client [] = 0
made_by client (call ∷ calls) =
    if call.client == client then made_by client calls + 1 else made_by client calls

-- true if the call is a pending call of the client
abbrev pub is_last : ℕ → Call → Bool
is_last client call = call.client == client && not (is_completed call)

-- true if one of the calls is a pending call of the client
abbrev pub has_stopped : ℕ → List Call → Bool
has_stopped client calls = list_any (is_last client) calls

-- true if there is an expected task, and it has the same plain form as the task
abbrev pub is_that : Option Task → Task → Bool
is_that None task = false
is_that (Some asked) task = bytes_eq (task_text asked) (task_text task)

-- true if a call submits the next task of its client after these earlier calls
abbrev pub is_next : List Asked → List Call → Call → Bool
is_next work earlier call =
    is_that (slice_get (tasks_of call.client work) (made_by call.client earlier)) call.op

-- the first line whose call does not submit the next task of its client; none if a line that is no
-- call comes before
abbrev pub first_foreign : List Asked → List Call → List (Result Call CallFault) → Option ℕ
first_foreign work earlier [] = None
first_foreign work earlier (Err fault ∷ rest) = None
first_foreign work earlier (Ok call ∷ rest) =
    if is_next work earlier call then first_foreign work (call ∷ earlier) rest
    else Some (length earlier + 1)

-- the calls of the lines up to the first line that is no call, put in front of the earlier calls,
-- newest first
abbrev pub calls_in : List Call → List (Result Call CallFault) → List Call
calls_in earlier [] = earlier
calls_in earlier (Err fault ∷ rest) = earlier
calls_in earlier (Ok call ∷ rest) = calls_in (call ∷ earlier) rest

-- true if no call of a client submits a task after the first `before` tasks of the client, and the
-- client has no pending call
-- Not said: anything of a pending call whose line is left out because the call took no effect. Its
-- task counts as missing, so a history that is checked against a workload must have the lines of
-- its pending calls.
abbrev pub is_missing : List Call → ℕ → ℕ → Bool
is_missing calls client before =
    nat_le (made_by client calls) before && not (has_stopped client calls)

-- the first task of the workload that no call submits: its client, and its number among the tasks
-- of the client
abbrev pub first_missing : List Call → List Asked → List Asked → Option (ℕ × ℕ)
first_missing calls before [] = None
first_missing calls before (asked ∷ work) =
    let number = length (tasks_of asked.client before) in
    if is_missing calls asked.client number then Some (asked.client, number + 1)
    else first_missing calls (asked ∷ before) work

-- true if a line comes before the line that a verdict names, or is that line; true for a legal
-- verdict, which names no line
abbrev pub comes_first : ℕ → Verdict → Bool
comes_first line (Legal found) = true
comes_first line (Fault named fault) = nat_le line named
comes_first line (Illegal named wrong) = nat_le line named

-- the verdict on the history alone; if that verdict is legal and a task is missing, the verdict
-- that the task is missing
abbrev pub unless_missing : Option (ℕ × ℕ) → Verdict → WorkloadVerdict
unless_missing (Some missing) (Legal found) = Missing missing.0 missing.1
unless_missing missing verdict = Judged verdict

-- the first faulty line decides. For one line the task is checked before the client, the times and
-- the reply
abbrev pub joined_verdict : Option ℕ → Option (ℕ × ℕ) → Verdict → WorkloadVerdict
joined_verdict None missing verdict = unless_missing missing verdict
joined_verdict (Some line) missing verdict =
    if comes_first line verdict then Foreign line else Judged verdict

-- the verdict on the lines of a history, checked against a workload
abbrev pub held_against_work : ℕ → List Asked → List ℕ → WorkloadVerdict
held_against_work n work bytes =
    let lines = map line_call (lines_of bytes) in
    joined_verdict (first_foreign work [] lines) (first_missing (calls_in [] lines) [] work)
    (verdict_on n bytes)

-- the verdict on a history checked against a workload, or the first line of the workload that
-- gives no task
abbrev pub held_by : ℕ → Result (List Asked) ℕ → List ℕ → WorkloadVerdict
held_by n (Ok work) bytes = held_against_work n work bytes
held_by n (Err line) bytes = BadTasks line

-- the verdict on a history of a system of n blocks, checked against the text of a workload
abbrev pub workload_verdict : ℕ → List ℕ → List ℕ → WorkloadVerdict
workload_verdict n tasks bytes = held_by n (work_of (map line_asked (lines_of tasks))) bytes

-- the output for the verdict on a history and a workload
abbrev pub workload_verdict_text : WorkloadVerdict → List ℕ
workload_verdict_text (Judged verdict) = verdict_text verdict
workload_verdict_text (BadTasks line) = as_line (codes "fault bad-tasks " ++ decimal line)
workload_verdict_text (Foreign line) = as_line (codes "illegal task " ++ decimal line)
workload_verdict_text (Missing client number) =
    as_line (codes "illegal missing " ++ decimal client ++ codes " " ++ decimal number)

-- true if the verdict is that the history is legal and covers the workload, except for the tasks
-- of a client after its pending call
abbrev pub is_whole : WorkloadVerdict → Bool
is_whole (Judged verdict) = is_legal verdict
is_whole _ = false
