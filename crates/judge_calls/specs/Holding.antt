-- The values that the code keeps for a workload and for calls that are checked against it.
use Rattle.std.specs.Prelude.{◌≡◌, ℕ, ◌+◌, false, Option, Some, None, Result, Ok, Err, List, [], ◌++◌, map, length, unwrap_or}
use Rattle.std.specs.Ordering.{nat_cmp}
use Rattle.std.specs.FinMap.{FinMap, get}
use Rattle.std.specs.Global.{Vec}
use Rattle.vac_model.specs.declared.tasks.Task.{Task}
use Rattle.judge_calls.specs.declared.work.Workload.{Workload}
use Rattle.judge_calls.specs.declared.holding.CallCount.{CallCount}
use Rattle.judge_calls.specs.declared.holding.CallCounts.{CallCounts}
use Rattle.judge_calls.specs.Call.{Call}
use Rattle.judge_calls.specs.Work.{Asked, tasks_of, made_by, has_stopped}

-- the submitted task of a pair of client and task
abbrev pub asked_of : ℕ × Task → Asked
asked_of pair = record { client = pair.0; task = pair.1 }

-- the tasks that are kept for a client, none if there is no entry
abbrev pub tasks_listed : Option (Vec Task) → List Task
tasks_listed None = []
tasks_listed (Some tasks) = tasks.items

-- the kept value represents this workload
pub record IsWork (kept : Workload) (work : List Asked) : Type 0 where
  pub clients : kept.clients.items ≡ map (λ a. a.client) work
  pub tasks : (client : ℕ) → tasks_listed (get kept.tasks client) ≡ tasks_of client work

-- some tasks in front of the workload of further lines; a faulty line is counted after those tasks
abbrev pub onto_all : List Asked → Result (List Asked) ℕ → Result (List Asked) ℕ
onto_all front (Ok work) = Ok (front ++ work)
onto_all front (Err line) = Err (length front + line)

-- the number of calls of a client, and whether one of them is pending
pub record IsCallCount (so_far : CallCount) (client : ℕ) (calls : List Call) : Type 0 where
  pub made : so_far.made ≡ made_by client calls
  pub stopped : so_far.stopped ≡ has_stopped client calls

-- the entry of a client, or its absence, represents the client's calls: a client without an entry
-- has no calls
abbrev pub IsKept : Option CallCount → ℕ → List Call → Type 0
IsKept None client calls = (0 ≡ made_by client calls) × (false ≡ has_stopped client calls)
IsKept (Some so_far) client calls = IsCallCount so_far client calls

-- the kept value counts the calls of each client
pub record Counts (kept : CallCounts) (calls : List Call) : Type 0 where
  pub clients : (client : ℕ) → IsKept (get kept.clients client) client calls
  pub number : kept.count ≡ length calls

-- the map counts the tasks of each client among the tasks seen so far
abbrev pub CountsSeen : FinMap nat_cmp ℕ → List Asked → Type 0
CountsSeen seen before =
    (client : ℕ) → unwrap_or (get seen client) 0 ≡ length (tasks_of client before)
