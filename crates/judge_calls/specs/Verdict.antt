-- The verdict of the judge on a history, as a function of all its bytes.
use Rattle.std.specs.Prelude.{ℕ, ◌+◌, Bool, true, false, Option, Some, None, Result, Ok, Err, List, [], ◌∷◌, ◌++◌, map, length, codes, decimal}
use Rattle.vac_model.specs.State.{State, empty_state, report}
use Rattle.vac_model.specs.Run.{run}
use Rattle.vac_lines.specs.Lines.{lines_of}
use Rattle.vac_lines.specs.Text.{fault_text}
use Rattle.vac_model.specs.ReplyText.{reply_text, report_text, field_text}
use Rattle.vac_lines.specs.Script.{as_line}
use Rattle.judge_calls.specs.declared.fault.CallFault.{CallFault}
use Rattle.judge_calls.specs.declared.fault.CallFault.TheVariants.{BadCall, Line}
use Rattle.judge_calls.specs.declared.verdict.CallViolation.{CallViolation}
use Rattle.judge_calls.specs.declared.verdict.CallViolation.TheVariants.{Client, Time, Reply}
use Rattle.judge_calls.specs.declared.verdict.Summary.{Summary}
use Rattle.judge_calls.specs.declared.verdict.Verdict.{Verdict}
use Rattle.judge_calls.specs.declared.verdict.Verdict.TheVariants.{Legal, Fault, Illegal}
use Rattle.judge_calls.specs.Call.{Call, line_call}
use Rattle.judge_calls.specs.Order.{wrong_of, clients_of_calls}

-- the summary of calls that are all correct and leave this state
abbrev pub summary_of : State → List Call → Summary
summary_of s calls = record {
  calls = length calls;
  clients = clients_of_calls calls;
  report = report s;
}

-- a wrong call decides the verdict; otherwise the rest of the lines decides
abbrev pub unless_wrong : Option CallViolation → ℕ → Verdict → Verdict
unless_wrong None line rest = rest
unless_wrong (Some wrong) line rest = Illegal line wrong

-- the verdict on these lines after earlier calls, newest first, that leave the state s
abbrev pub judged : State → List Call → List (Result Call CallFault) → Verdict
judged s earlier [] = Legal (summary_of s earlier)
judged s earlier (Err fault ∷ rest) = Fault (length earlier + 1) fault
judged s earlier (Ok call ∷ rest) =
    unless_wrong (wrong_of s earlier call) (length earlier + 1)
    (judged (run s call.op).0 (call ∷ earlier) rest)

-- the verdict on a history of a system of n blocks
abbrev pub verdict_on : ℕ → List ℕ → Verdict
verdict_on n bytes = judged (empty_state n) [] (map line_call (lines_of bytes))

-- the text of a fault of a call's line
abbrev pub call_fault_text : CallFault → List ℕ
call_fault_text BadCall = codes "fault bad-call"
call_fault_text (Line fault) = fault_text fault

-- the text of a wrong call: the kind of fault, the line and, for a wrong reply, the expected reply
abbrev pub wrong_text : CallViolation → ℕ → List ℕ
wrong_text Client line = codes "illegal client " ++ decimal line
wrong_text Time line = codes "illegal time " ++ decimal line
wrong_text (Reply expected) line =
    codes "illegal reply " ++ decimal line ++ codes " " ++ reply_text expected

-- the counts of a legal history
abbrev pub counts_text : Summary → List ℕ
counts_text found =
    field_text (codes "legal calls=") found.calls ++ field_text (codes " clients=") found.clients

-- the output for a verdict
abbrev pub verdict_text : Verdict → List ℕ
verdict_text (Legal found) = as_line (counts_text found) ++ as_line (report_text found.report)
verdict_text (Fault line fault) = as_line (call_fault_text fault ++ codes " " ++ decimal line)
verdict_text (Illegal line wrong) = as_line (wrong_text wrong line)

-- true if the verdict is that the history is legal
abbrev pub is_legal : Verdict → Bool
is_legal (Legal found) = true
is_legal (Fault line fault) = false
is_legal (Illegal line wrong) = false

-- the output of the judge for a history
abbrev pub judge_out : ℕ → List ℕ → List ℕ
judge_out n bytes = verdict_text (verdict_on n bytes)
