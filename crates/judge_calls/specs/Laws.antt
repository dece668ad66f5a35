-- The verdict is correct: a history is legal if and only if the order of its lines is a
-- linearization of its calls.
use Rattle.std.specs.Prelude.{◌≡◌, ◌↔◌, ℕ, Option, Ok, List, map, true, reverse}
use Rattle.vac_model.specs.State.{State, empty_state}
use Rattle.vac_model.specs.declared.replies.Reply.{Reply}
use Rattle.judge_object.specs.Rules as object
use Rattle.judge_object.specs.Linear as linear
use Rattle.judge_reservations.specs.Reserving.{reserving}
use Rattle.vac_lines.specs.Lines.{lines_of}
use Rattle.judge_calls.specs.declared.verdict.Verdict.TheVariants.{Legal}
use Rattle.judge_calls.specs.Call.{Call, line_call}
use Rattle.judge_calls.specs.Verdict.{verdict_on, is_legal, summary_of}

-- the reply is the given text, or no text is given
abbrev pub IsAnswerOf : Reply → Option (List ℕ) → Type 0
IsAnswerOf reply given = object.IsAnswerOf reserving reply given

-- run one after the other from a state, the calls give their replies
abbrev pub GiveReplies : State → List Call → Type 0
GiveReplies s calls = linear.GiveReplies reserving s calls

-- the order of the calls is a linearization, for a system of n blocks
abbrev pub IsLinearization : ℕ → List Call → Type 0
IsLinearization n calls = linear.IsLinearization reserving (empty_state n) calls

-- each line of a text is a call, and the calls are these
abbrev pub Lists : List ℕ → List Call → Type 0
Lists bytes calls = map line_call (lines_of bytes) ≡ map Ok calls

-- each line is a call, and the order of the lines is a linearization
pub record IsLegalHistory (n : ℕ) (bytes : List ℕ) : Type 0 where
  pub calls : List Call
  pub listed : Lists bytes calls
  pub linearization : IsLinearization n calls

-- the verdict on a text is legal if and only if the text is a legal history
abbrev pub LegalIsLinearization : Type 0
LegalIsLinearization = (n : ℕ) (bytes : List ℕ) →
    (is_legal (verdict_on n bytes) ≡ true) ↔ IsLegalHistory n bytes

-- the state that the calls leave, run one after the other
abbrev pub state_after : State → List Call → State
state_after s calls = linear.state_after reserving s calls

-- the verdict on a legal history gives the number of calls, the number of clients and the report
-- of the state that the calls leave
abbrev pub LegalSummary : Type 0
LegalSummary = (n : ℕ) (bytes : List ℕ) (calls : List Call) → Lists bytes calls →
    IsLinearization n calls →
    verdict_on n bytes ≡ Legal (summary_of (state_after (empty_state n) calls) (reverse calls))
