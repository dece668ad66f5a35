-- The verdict on an order that was found for the calls of a history, and that is a linearization:
-- exactly one verdict has its condition, and this verdict is given.
use Rattle.std.specs.Prelude.{◌≡◌, ◌↔◌, ℕ, List}
use Rattle.judge_calls.specs.declared.held.WorkloadVerdict.TheVariants.{Judged, BadTasks, Foreign, Missing}
use Rattle.judge_calls.specs.declared.in_order.OrderVerdict.{OrderVerdict}
use Rattle.judge_calls.specs.declared.in_order.OrderVerdict.TheVariants.{Held, LeftOut}
use Rattle.judge_calls.specs.Call.{Call}
use Rattle.judge_calls.specs.Verdict.{verdict_on}
use Rattle.judge_calls.specs.Laws.{IsLinearization}
use Rattle.judge_calls.specs.NotWhole.{IsFirstWithoutTask, AskForFirst}
use Rattle.judge_calls.specs.AnyOrder.{order_verdict, IsReordered, IsWholeOrder, IsFirstOther}
use Rattle.judge_calls.specs.AnyOrder.{IsNeverSubmitted, IsLeftOutOfOrder}

-- all calls of the history submit the next task of their clients, and the first task that the
-- order does not submit is submitted by none of these calls
pub record IsMissing (n : ℕ) (tasks text : List ℕ) (calls : List Call) (client number : ℕ)
    : Type 0 where
  pub never : IsNeverSubmitted n tasks text calls client number
  pub asked : (one : ℕ) → AskForFirst one never.missing.work calls

-- all calls of the history submit the next task of their clients, and the first task that the
-- order does not submit is the task of a pending call that the order leaves out
pub record IsLeftOut (n : ℕ) (tasks text : List ℕ) (calls order : List Call) (line : ℕ)
    : Type 0 where
  pub pending : IsLeftOutOfOrder n tasks text calls order line
  pub asked : (one : ℕ) → AskForFirst one pending.missing.work calls

-- the condition of a verdict. The verdict on the order alone is given if the order, with all its
-- calls, is the whole workload; each other verdict names what keeps the order from that
abbrev pub HasCondition : ℕ → List ℕ → List ℕ → List ℕ → List Call → List Call → OrderVerdict
    → Type 0
HasCondition n tasks bytes text calls order (Held (Judged verdict)) =
    IsWholeOrder n tasks calls order × (verdict ≡ verdict_on n text)
HasCondition n tasks bytes text calls order (Held (BadTasks line)) = IsFirstWithoutTask tasks line
HasCondition n tasks bytes text calls order (Held (Foreign line)) = IsFirstOther tasks bytes line
HasCondition n tasks bytes text calls order (Held (Missing client number)) =
    IsMissing n tasks text calls client number
HasCondition n tasks bytes text calls order (LeftOut line) =
    IsLeftOut n tasks text calls order line

-- a verdict on an order that is a linearization is given if and only if its condition holds. So
-- exactly one verdict has its condition
abbrev pub VerdictHasItsCondition : Type 0
VerdictHasItsCondition = (n : ℕ) (tasks bytes text : List ℕ) (calls order : List Call) →
    IsReordered bytes text calls order → IsLinearization n order → (verdict : OrderVerdict) →
    (order_verdict n tasks bytes text ≡ verdict)
    ↔ HasCondition n tasks bytes text calls order verdict
