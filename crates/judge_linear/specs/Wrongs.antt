-- The line that ends the reading of a history of which only each client's own order is known: the
-- first line that is no call, or whose call is not in turn; and what such a call says of all
-- orders.
use Rattle.std.specs.Prelude.{◌≡◌, ◌≤◌, ◌⊎◌, ◌↔◌, ◌+◌, ℕ, true, false, Ok, Err, Result, List, []}
use Rattle.std.specs.Prelude.{◌∷◌, ◌++◌, map, length, take, drop}
use Rattle.vac_model.specs.State.{empty_state}
use Rattle.vac_lines.specs.Lines.{lines_of}
use Rattle.judge_calls.specs.declared.fault.CallFault.{CallFault}
use Rattle.judge_calls.specs.declared.verdict.CallViolation.TheVariants.{Client}
use Rattle.judge_calls.specs.declared.verdict.Verdict.{Verdict}
use Rattle.judge_calls.specs.declared.verdict.Verdict.TheVariants.{Fault, Illegal}
use Rattle.judge_calls.specs.Call.{Call, line_call}
use Rattle.judge_calls.specs.Verdict.{verdict_text}
use Rattle.judge_calls.specs.Laws.{Lists, IsLinearization}
use Rattle.judge_calls.specs.Wrongs.{CallsTakeTurns}
use Rattle.judge_object.specs.Call.{EachCall, is_completed}
use Rattle.judge_object.specs.Orders.{of_client, IsOrderOf, IsLinearizable}
use Rattle.judge_reservations.specs.Reserving.{reserving}
use Rattle.judge_object.specs.declared.level.Level.{Level}
use Rattle.judge_linear.specs.declared.ordering.Outcome.{Outcome}
use Rattle.judge_linear.specs.declared.ordering.Outcome.TheVariants as outcome
use Rattle.judge_linear.specs.Found.{Wrong, IsFound}
use Rattle.judge_linear.specs.Ordering.{FindsText}

-- the line is no call by this fault; the lines before it are calls, each client's in turn
pub record IsFirstNoCall (bytes : List ℕ) (line : ℕ) (fault : CallFault) : Type 0 where
  pub before : List Call
  pub rest : List (Result Call CallFault)
  pub listed : map line_call (lines_of bytes) ≡ map Ok before ++ Err fault ∷ rest
  pub number : line ≡ length before + 1
  pub turns : CallsTakeTurns before

-- the lines before this line are calls, each client's in turn; with the call of this line they are
-- not in turn
pub record IsFirstOutOfTurn (bytes : List ℕ) (line : ℕ) : Type 0 where
  pub before : List Call
  pub call : Call
  pub rest : List (Result Call CallFault)
  pub listed : map line_call (lines_of bytes) ≡ map Ok before ++ Ok call ∷ rest
  pub number : line ≡ length before + 1
  pub turns : CallsTakeTurns before
  pub broken : CallsTakeTurns (before ++ call ∷ []) → ⊥

-- the verdict names the first line of a text that is no call or not in turn, and says which
abbrev pub IsFirstWrongLine : List ℕ → Verdict → Type 0
IsFirstWrongLine bytes (Fault line fault) = IsFirstNoCall bytes line fault
IsFirstWrongLine bytes (Illegal line Client) = IsFirstOutOfTurn bytes line
IsFirstWrongLine bytes verdict = ⊥

-- each line of a text is a call, and the calls of each client are in turn
pub record IsInTurn (bytes : List ℕ) : Type 0 where
  pub calls : List Call
  pub listed : Lists bytes calls
  pub turns : CallsTakeTurns calls

-- the result for a text is a wrong line if and only if that line is the first wrong line
abbrev pub WrongIsFirst : Type 0
WrongIsFirst = (kept : Level) (n steps : ℕ) (bytes : List ℕ) (verdict : Verdict) →
    IsFound kept n steps bytes (Wrong verdict) ↔ IsFirstWrongLine bytes verdict

-- if a text has a first wrong line, what is written for the text is the verdict that names the
-- line, and the outcome says that the text is illegal
abbrev pub FirstWrongIsWritten : Type 0
FirstWrongIsWritten = (kept : Level) (n steps : ℕ) (bytes : List ℕ) (result : Outcome)
    (text : List ℕ) (verdict : Verdict) → FindsText kept n steps bytes result text →
    IsFirstWrongLine bytes verdict →
    (result ≡ outcome.Illegal) × (text ≡ verdict_text verdict)

-- each text has a first wrong line, or is in turn
abbrev pub WrongOrInTurn : Type 0
WrongOrInTurn = (bytes : List ℕ) →
    ((verdict : Verdict) × IsFirstWrongLine bytes verdict) ⊎ IsInTurn bytes

-- from a position on no call of a client is completed, and an order has none of these calls
pub record LeavesOutFrom (calls order : List Call) (client place : ℕ) : Type 0 where
  pub pending : EachCall (λ call. is_completed call ≡ false) (of_client client (drop place calls))
  pub none : length (of_client client order) ≤ length (of_client client (take place calls))

-- an order of the calls that is a linearization leaves out the call that is not in turn, and all
-- later calls of its client; none of them is completed
abbrev pub OutOfTurnIsLeftOut : Type 0
OutOfTurnIsLeftOut = (n line : ℕ) (bytes : List ℕ) (first : IsFirstOutOfTurn bytes line)
    (calls order : List Call) → Lists bytes calls → IsOrderOf calls order →
    IsLinearization n order →
    LeavesOutFrom calls order first.call.client (length first.before)

-- so no order of the calls is a linearization if the call that is not in turn is completed
abbrev pub OutOfTurnMeansNone : Type 0
OutOfTurnMeansNone = (n line : ℕ) (bytes : List ℕ) (first : IsFirstOutOfTurn bytes line) →
    is_completed first.call ≡ true → (calls : List Call) → Lists bytes calls →
    IsLinearizable reserving (empty_state n) calls → ⊥
