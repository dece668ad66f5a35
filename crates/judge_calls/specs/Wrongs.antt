-- The verdict names the right line. The order of the calls before it is a linearization, and the
-- order with its call is none. The cause is the first one, in the order in which the judge looks
-- for causes.
use Rattle.std.specs.Prelude.{◌≡◌, ◌↔◌, ℕ, ◌+◌, Ok, Err, Result, List, [], ◌∷◌, ◌++◌, map, length}
use Rattle.vac_model.specs.State.{empty_state}
use Rattle.vac_model.specs.Run.{run}
use Rattle.judge_object.specs.Laws as spans
use Rattle.vac_lines.specs.Lines.{lines_of}
use Rattle.judge_calls.specs.declared.fault.CallFault.{CallFault}
use Rattle.judge_calls.specs.declared.verdict.CallViolation.{CallViolation}
use Rattle.judge_calls.specs.declared.verdict.CallViolation.TheVariants.{Client, Time, Reply}
use Rattle.judge_calls.specs.declared.verdict.Verdict.TheVariants.{Fault, Illegal}
use Rattle.judge_calls.specs.Call.{Call, line_call}
use Rattle.judge_calls.specs.Verdict.{verdict_on}
use Rattle.judge_object.specs.Call.{span_of}
use Rattle.judge_object.specs.Linear.{CallsKeepPrecedence}
use Rattle.judge_calls.specs.Laws.{IsAnswerOf}
use Rattle.judge_calls.specs.Laws.{IsLinearization, state_after}

-- no call ends before it begins, and the calls of each client do not overlap and are in their
-- order
abbrev pub CallsTakeTurns : List Call → Type 0
CallsTakeTurns calls = spans.TakeTurns span_of calls

-- the reason why no linearization goes on from these calls with this call. The turns of clients
-- are checked first, then the times, then the reply: the sequential manager gives another reply
abbrev pub IsCause : ℕ → List Call → Call → CallViolation → Type 0
IsCause n calls call Client = CallsTakeTurns (calls ++ call ∷ []) → ⊥
IsCause n calls call Time =
    CallsTakeTurns (calls ++ call ∷ []) × (CallsKeepPrecedence (calls ++ call ∷ []) → ⊥)
IsCause n calls call (Reply expected) =
    CallsTakeTurns (calls ++ call ∷ []) × CallsKeepPrecedence (calls ++ call ∷ [])
    × (expected ≡ (run (state_after (empty_state n) calls) call.op).1)
    × (IsAnswerOf expected call.reply → ⊥)

-- the line is the first wrong line, and its call is wrong for this reason
pub record IsFirstWrong (n : ℕ) (bytes : List ℕ) (line : ℕ) (wrong : CallViolation) : Type 0 where
  pub before : List Call
  pub call : Call
  pub rest : List (Result Call CallFault)
  pub listed : map line_call (lines_of bytes) ≡ map Ok before ++ Ok call ∷ rest
  pub number : line ≡ length before + 1
  pub legal : IsLinearization n before
  pub illegal : IsLinearization n (before ++ call ∷ []) → ⊥
  pub cause : IsCause n before call wrong

-- the verdict calls a line illegal if and only if the line is the first wrong line
abbrev pub IllegalIsFirstWrong : Type 0
IllegalIsFirstWrong = (n : ℕ) (bytes : List ℕ) (line : ℕ) (wrong : CallViolation) →
    (verdict_on n bytes ≡ Illegal line wrong) ↔ IsFirstWrong n bytes line wrong

-- the line is no call, and the lines before it are a legal history
pub record IsFirstFault (n : ℕ) (bytes : List ℕ) (line : ℕ) (fault : CallFault) : Type 0 where
  pub before : List Call
  pub rest : List (Result Call CallFault)
  pub listed : map line_call (lines_of bytes) ≡ map Ok before ++ Err fault ∷ rest
  pub number : line ≡ length before + 1
  pub legal : IsLinearization n before

-- the verdict is the fault of a line if and only if the line is no call by this fault and the
-- lines before it are a legal history
abbrev pub FaultIsFirst : Type 0
FaultIsFirst = (n : ℕ) (bytes : List ℕ) (line : ℕ) (fault : CallFault) →
    (verdict_on n bytes ≡ Fault line fault) ↔ IsFirstFault n bytes line fault
