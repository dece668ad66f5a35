-- Conditions for a call that does not fit the calls before it. Earlier calls are listed from the
-- newest on.
use Rattle.std.specs.Prelude.{ℕ, Bool, Option, Some, None, List, if◌then◌else◌}
use Rattle.vac_model.specs.State.{State}
use Rattle.vac_model.specs.Run.{run}
use Rattle.vac_lines.specs.Text.{is_right}
use Rattle.judge_object.specs.Call.{span_of}
use Rattle.judge_object.specs.Order as spans
use Rattle.judge_calls.specs.declared.verdict.CallViolation.{CallViolation}
use Rattle.judge_calls.specs.declared.verdict.CallViolation.TheVariants as wrong
use Rattle.judge_calls.specs.Call.{Call}

-- true if the call ends before it begins, or overlaps an earlier call of its client
abbrev pub call_breaks_client : List Call → Call → Bool
call_breaks_client earlier call = spans.breaks_client span_of earlier call

-- true if some earlier call of the list began after this call had ended
abbrev pub call_breaks_time : List Call → Call → Bool
call_breaks_time earlier call = spans.breaks_time span_of earlier call

-- the first fault of a call after earlier calls that leave the state s, or none
abbrev pub wrong_of : State → List Call → Call → Option CallViolation
wrong_of s earlier call =
    let expected = (run s call.op).1 in
    if call_breaks_client earlier call then Some wrong.Client
    else if call_breaks_time earlier call then Some wrong.Time
    else if is_right call.reply expected then None
    else Some (wrong.Reply expected)

-- the number of clients that made the calls
abbrev pub clients_of_calls : List Call → ℕ
clients_of_calls calls = spans.clients_of span_of calls
