-- A history that is checked against a workload in an order that was found for its calls. The
-- verdict names lines of the history. A missing task that a call of the history submits, and that
-- the order leaves out, is told apart from a task that no call submits.
use Rattle.std.specs.Prelude.{◌≡◌, ◌↔◌, ◌+◌, ◌-◌, ◌<◌, ◌==◌, ℕ, Bool, false, Option, Some, None}
use Rattle.std.specs.Prelude.{Result, Ok, Err, List, [], ◌∷◌, ◌++◌, map, length, codes, decimal}
use Rattle.std.specs.Prelude.{true, if◌then◌else◌}
use Rattle.std.specs.Io.KnownBytes.{Appends}
use Rattle.vac_lines.specs.Lines.{lines_of}
use Rattle.vac_lines.specs.Script.{as_line}
use Rattle.vac_lines.specs.Writing.{AppendsPrefix}
use Rattle.vac_lines.specs.declared.stream_fault.StreamFault.{StreamFault}
use Rattle.vac_lines.specs.declared.stream_fault.StreamFault.TheVariants as fault
use Rattle.judge_object.specs.Call.{is_completed}
use Rattle.judge_object.specs.Orders.{IsOrderOf}
use Rattle.judge_calls.specs.declared.fault.CallFault.{CallFault}
use Rattle.judge_calls.specs.declared.held.WorkloadVerdict.{WorkloadVerdict}
use Rattle.judge_calls.specs.declared.held.WorkloadVerdict.TheVariants.{BadTasks, Foreign, Missing}
use Rattle.judge_calls.specs.declared.in_order.OrderVerdict.{OrderVerdict}
use Rattle.judge_calls.specs.declared.in_order.OrderVerdict.TheVariants.{Held, LeftOut}
use Rattle.judge_calls.specs.Call.{Call, line_call}
use Rattle.judge_calls.specs.Laws.{Lists, IsLinearization}
use Rattle.judge_calls.specs.Work.{Asked, line_asked, work_of, first_foreign, held_against_work}
use Rattle.judge_calls.specs.Work.{workload_verdict_text, is_whole}
use Rattle.judge_calls.specs.Whole.{asked_by, IsDoneBy}
use Rattle.judge_calls.specs.NotWhole.{HandsOut, AskForFirst, IsFirstMissing}
use Rattle.judge_calls.specs.HeldReading.{IsReadWhole}

-- ---- the verdict

-- the number of the line of a client's call that has this many calls of the client before it, in
-- lines of which the first has the number `line`; none if the lines have no such call before the
-- first line that is no call
abbrev pub line_of_call : ℕ → ℕ → ℕ → List (Result Call CallFault) → Option ℕ
line_of_call client before line [] = None
line_of_call client before line (Err fault ∷ rest) = None
line_of_call client before line (Ok call ∷ rest) =
    if call.client == client
    then (if before == 0 then Some line else line_of_call client (before - 1) (line + 1) rest)
    else line_of_call client before (line + 1) rest

-- the verdict on a task that the order does not submit, from the line of the history that does
abbrev pub unless_left_out : Option ℕ → ℕ → ℕ → OrderVerdict
unless_left_out (Some line) client number = LeftOut line
unless_left_out None client number = Held (Missing client number)

-- the verdict on an order, told by the lines of the history
abbrev pub told_by_lines : List (Result Call CallFault) → WorkloadVerdict → OrderVerdict
told_by_lines lines (Missing client number) =
    unless_left_out (line_of_call client (number - 1) 1 lines) client number
told_by_lines lines verdict = Held verdict

-- a line of the history with a task of another place decides; otherwise the order decides
abbrev pub unless_foreign : Option ℕ → OrderVerdict → OrderVerdict
unless_foreign (Some line) verdict = Held (Foreign line)
unless_foreign None verdict = verdict

-- the verdict on a history and on the text of an order of its calls, checked against a workload
abbrev pub order_against_work : ℕ → List Asked → List ℕ → List ℕ → OrderVerdict
order_against_work n work bytes text =
    let lines = map line_call (lines_of bytes) in
    unless_foreign (first_foreign work [] lines)
    (told_by_lines lines (held_against_work n work text))

-- the verdict, or the first line of the workload that gives no task
abbrev pub order_held_by : ℕ → Result (List Asked) ℕ → List ℕ → List ℕ → OrderVerdict
order_held_by n (Ok work) bytes text = order_against_work n work bytes text
order_held_by n (Err line) bytes text = Held (BadTasks line)

-- the verdict on a history and on the text of an order of its calls, for a system of n blocks,
-- checked against the text of a workload
abbrev pub order_verdict : ℕ → List ℕ → List ℕ → List ℕ → OrderVerdict
order_verdict n tasks bytes text =
    order_held_by n (work_of (map line_asked (lines_of tasks))) bytes text

-- the output for the verdict
abbrev pub order_verdict_text : OrderVerdict → List ℕ
order_verdict_text (Held verdict) = workload_verdict_text verdict
order_verdict_text (LeftOut line) = as_line (codes "illegal pending " ++ decimal line)

-- true if the verdict is that the order is legal and covers the workload
abbrev pub is_covered : OrderVerdict → Bool
is_covered (Held verdict) = is_whole verdict
is_covered (LeftOut line) = false

-- ---- what is read and written

-- the workload was read to its end, and exactly the verdict was written. The returned value is true
-- if the order is legal and covers the workload
pub record HasCheckedOrder (n : ℕ) (covered : Bool) (tasks tasks_left : Option (List ℕ))
    (bytes text : List ℕ) (held holds : Option (List ℕ)) : Type 0 where
  pub work : List ℕ
  pub work_read : IsReadWhole tasks tasks_left work
  pub answered : covered ≡ is_covered (order_verdict n work bytes text)
  pub written : Appends held holds (order_verdict_text (order_verdict n work bytes text))

-- the workload was read to its end, and a prefix of the verdict was written
pub record HasCheckedOrderInPart (n : ℕ) (tasks tasks_left : Option (List ℕ))
    (bytes text : List ℕ) (held holds : Option (List ℕ)) : Type 0 where
  pub work : List ℕ
  pub work_read : IsReadWhole tasks tasks_left work
  pub written : AppendsPrefix held holds (order_verdict_text (order_verdict n work bytes text))

-- a fault ended the judging. After a fault of the output a prefix of the verdict was written,
-- after any other fault nothing
-- Not said: which cause gives which of the faults of reading, of memory and of bounds.
abbrev pub HasStoppedCheckingOrder : ℕ → StreamFault → Option (List ℕ) → Option (List ℕ) → List ℕ
    → List ℕ → Option (List ℕ) → Option (List ℕ) → Type 0
HasStoppedCheckingOrder n fault.Write tasks tasks_left bytes text held holds =
    HasCheckedOrderInPart n tasks tasks_left bytes text held holds
HasStoppedCheckingOrder n fault tasks tasks_left bytes text held holds = Appends held holds []

-- ---- the verdict is right

-- the lines of a history are calls, and the lines of a text are an order of these calls
pub record IsReordered (bytes text : List ℕ) (calls order : List Call) : Type 0 where
  pub listed : Lists bytes calls
  pub written : Lists text order
  pub orders : IsOrderOf calls order

-- an order is a linearization, and its calls are the whole workload: each client's calls of the
-- order submit its tasks. All calls of the history submit the next task of their clients
pub record IsWholeOrder (n : ℕ) (tasks : List ℕ) (calls order : List Call) : Type 0 where
  pub work : List Asked
  pub handed : HandsOut tasks work
  pub linearization : IsLinearization n order
  pub done : (client : ℕ) → IsDoneBy client work order
  pub asked : (client : ℕ) → AskForFirst client work calls

-- the verdict is that an order covers the workload if and only if the order is a linearization
-- whose calls are the whole workload
abbrev pub CoveredIsWhole : Type 0
CoveredIsWhole = (n : ℕ) (tasks bytes text : List ℕ) (calls order : List Call) →
    IsReordered bytes text calls order →
    (is_covered (order_verdict n tasks bytes text) ≡ true) ↔ IsWholeOrder n tasks calls order

-- the line of a history is the first whose call does not submit the next task of its client
pub record IsFirstOther (tasks bytes : List ℕ) (line : ℕ) : Type 0 where
  pub work : List Asked
  pub before : List Call
  pub call : Call
  pub rest : List (Result Call CallFault)
  pub handed : HandsOut tasks work
  pub listed : map line_call (lines_of bytes) ≡ map Ok before ++ Ok call ∷ rest
  pub number : line ≡ length before + 1
  pub asked : (client : ℕ) → AskForFirst client work before
  pub other : AskForFirst call.client work (before ++ call ∷ []) → ⊥

-- the verdict names a line as foreign if and only if the line of the history is the first whose
-- call does not submit the next task of its client, whatever order was found
abbrev pub ForeignIsOfHistory : Type 0
ForeignIsOfHistory = (n : ℕ) (tasks bytes text : List ℕ) (calls order : List Call) →
    IsReordered bytes text calls order → (line : ℕ) →
    (order_verdict n tasks bytes text ≡ Held (Foreign line)) ↔ IsFirstOther tasks bytes line

-- the first task that the order does not submit is submitted by no call of the history
pub record IsNeverSubmitted (n : ℕ) (tasks text : List ℕ) (calls : List Call)
    (client number : ℕ) : Type 0 where
  pub missing : IsFirstMissing n tasks text client number
  pub fewer : length (asked_by client calls) < number

-- if the verdict names a task as missing, no call of the history submits the task
abbrev pub MissingIsNeverSubmitted : Type 0
MissingIsNeverSubmitted = (n : ℕ) (tasks bytes text : List ℕ) (calls order : List Call) →
    IsReordered bytes text calls order → (client number : ℕ) →
    order_verdict n tasks bytes text ≡ Held (Missing client number) →
    IsNeverSubmitted n tasks text calls client number

-- the first task that the order does not submit has the place of the call of this line among its
-- client's tasks. This call is pending, and the order leaves it out
pub record IsLeftOutOfOrder (n : ℕ) (tasks text : List ℕ) (calls order : List Call) (line : ℕ) :
    Type 0 where
  pub client : ℕ
  pub number : ℕ
  pub missing : IsFirstMissing n tasks text client number
  pub before : List Call
  pub call : Call
  pub after : List Call
  pub split : calls ≡ before ++ call ∷ after
  pub line_is : line ≡ length before + 1
  pub owner : call.client ≡ client
  pub place : length (asked_by client before) + 1 ≡ number
  pub left_out : length (asked_by client order) < number
  pub pending : is_completed call ≡ false

-- if the verdict names a line as left out, its call is pending, and its task is the first that the
-- order does not submit
abbrev pub LeftOutIsPending : Type 0
LeftOutIsPending = (n : ℕ) (tasks bytes text : List ℕ) (calls order : List Call) →
    IsReordered bytes text calls order → (line : ℕ) →
    order_verdict n tasks bytes text ≡ LeftOut line →
    IsLeftOutOfOrder n tasks text calls order line
