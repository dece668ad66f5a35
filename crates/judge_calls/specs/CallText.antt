-- The line that a writer of histories writes for a call, in its plain form.
use Rattle.std.specs.Prelude.{◌≡◌, ◌↔◌, ◌≤◌, ◌<◌, ◌^◌, ⊤, ℕ, ◌⊎◌, true, IfSome, Some, None, Ok, All, List, ◌∷◌, [], ◌++◌, length, flat_map, codes, decimal, Option}
use Rattle.std.specs.Prelude.{nat_lt, if◌then◌else◌}
use Rattle.vac_model.specs.declared.limits.TheConstants.{MOST_PARTS}
use Rattle.vac_model.specs.declared.tasks.Task.{Task}
use Rattle.vac_model.specs.declared.replies.Reply.{Reply}
use Rattle.vac_model.specs.declared.replies.Reply.TheVariants as reply
use Rattle.vac_model.specs.declared.replies.Pick.{Pick}
use Rattle.vac_model.specs.Ranges.{is_task}
use Rattle.vac_lines.specs.declared.line.TheConstants.{LINE_BYTES}
use Rattle.vac_lines.specs.Script.{as_line}
use Rattle.vac_model.specs.TaskText.{task_text}
use Rattle.vac_model.specs.ReplyText.{reply_text}
use Rattle.vac_lines.specs.declared.client.TheConstants.{MOST_CLIENT}
use Rattle.judge_calls.specs.declared.call.TheConstants.{CALL_BYTES}
use Rattle.judge_object.specs.declared.span.TheConstants.{NEVER}
use Rattle.judge_calls.specs.Call.{Call, line_call}
use Rattle.judge_calls.specs.Verdict.{verdict_on, is_legal}
use Rattle.judge_calls.specs.Laws.{Lists, IsLinearization}

-- END of a call: `-` for a pending call
abbrev pub end_text : ℕ → List ℕ
end_text end = if nat_lt end NEVER then decimal end else codes "-"

-- REPLY of a call: `?` for a reply that is not known
abbrev pub answer_text : Option (List ℕ) → List ℕ
answer_text None = codes "?"
answer_text (Some reply) = reply

-- CLIENT BEGIN END LINE -> REPLY, with the plain form of the task as LINE
abbrev pub call_text : Call → List ℕ
call_text call =
    decimal call.client ++ codes " " ++ decimal call.begin ++ codes " "
    ++ end_text call.end ++ codes " " ++ task_text call.op ++ codes " -> "
    ++ answer_text call.reply

-- each of the numbers fits 64 bits
abbrev pub AreWords : List ℕ → Type 0
AreWords numbers = All (λ n. n < 2 ^ 64) numbers

-- the id of the item that a trip picked fits 32 bits
abbrev pub IsPick : Option Pick → Type 0
IsPick pick = IfSome pick (λ pick. pick.id < 2 ^ 32)

-- the numbers of a reply fit the widths of their types
abbrev pub IsReply : Reply → Type 0
IsReply reply.Done = ⊤
IsReply (reply.Number n) = IfSome n (λ n. n < 2 ^ 64)
IsReply (reply.Report r) = AreWords (r.cars ∷ r.flights ∷ r.rooms ∷ r.customers ∷ r.bookings
    ∷ r.used ∷ r.free ∷ r.total ∷ r.billed ∷ [])
IsReply (reply.No why) = ⊤
IsReply (reply.Trip t) = All IsPick t.picks
IsReply (reply.Update u) = length u.refused ≤ MOST_PARTS

-- a completed call with this reply: its numbers fit the widths of their types, its task is valid,
-- and the line of its task is no longer than a line may be
pub record IsAnsweredCall (call : Call) (answer : Reply) : Type 0 where
  pub client : call.client ≤ MOST_CLIENT
  pub begin : call.begin < 2 ^ 64
  pub end : call.end < 2 ^ 64
  pub task : is_task call.op ≡ true
  pub line : length (task_text call.op) ≤ LINE_BYTES
  pub numbers : IsReply answer
  pub reply : call.reply ≡ Some (reply_text answer)

-- a pending call whose reply is not known: its numbers fit the widths of their types, its task is
-- valid, and the line of its task is no longer than a line may be
pub record IsUnanswered (call : Call) : Type 0 where
  pub client : call.client ≤ MOST_CLIENT
  pub begin : call.begin < 2 ^ 64
  pub end : call.end ≡ NEVER
  pub task : is_task call.op ≡ true
  pub line : length (task_text call.op) ≤ LINE_BYTES
  pub reply : call.reply ≡ None

-- an undetermined call with this reply: its numbers fit the widths of their types, its task is
-- valid, and the line of its task is no longer than a line may be
pub record IsUndetermined (call : Call) (answer : Reply) : Type 0 where
  pub client : call.client ≤ MOST_CLIENT
  pub begin : call.begin < 2 ^ 64
  pub end : call.end ≡ NEVER
  pub task : is_task call.op ≡ true
  pub line : length (task_text call.op) ≤ LINE_BYTES
  pub numbers : IsReply answer
  pub reply : call.reply ≡ Some (reply_text answer)

-- the completed call with these numbers, this task and this reply
abbrev pub answered_call : ℕ → ℕ → ℕ → Task → Reply → Call
answered_call client begin end task answer = record {
  client = client;
  begin = begin;
  end = end;
  op = task;
  reply = Some (reply_text answer);
}

-- the pending call with these numbers and this task, whose reply is not known
abbrev pub unanswered : ℕ → ℕ → Task → Call
unanswered client begin task = record {
  client = client;
  begin = begin;
  end = NEVER;
  op = task;
  reply = None;
}

-- the undetermined call with these numbers, this task and this reply
abbrev pub undetermined : ℕ → ℕ → Task → Reply → Call
undetermined client begin task answer = record {
  client = client;
  begin = begin;
  end = NEVER;
  op = task;
  reply = Some (reply_text answer);
}

-- the written line of a call is no longer than a line of a history may be, and is read back as the
-- call
pub record IsReadBackAsCall (call : Call) : Type 0 where
  pub fits : length (call_text call) ≤ CALL_BYTES
  pub read : line_call (call_text call) ≡ Ok call

-- the call is completed or undetermined with some reply, or pending and its reply is not known
abbrev pub IsWritten : Call → Type 0
IsWritten call = ((answer : Reply) × IsAnsweredCall call answer)
    ⊎ (((answer : Reply) × IsUndetermined call answer) ⊎ IsUnanswered call)

-- the written line of every completed, undetermined or pending call is read back as the call
abbrev pub CallTextsAreRead : Type 0
CallTextsAreRead = (call : Call) → IsWritten call → IsReadBackAsCall call

-- each of the calls is completed, undetermined or pending, as `IsWritten` says
abbrev pub AreWritten : List Call → Type 0
AreWritten calls = All IsWritten calls

-- the history that is written for some calls, one call a line
abbrev pub history_text : List Call → List ℕ
history_text calls = flat_map (λ call. as_line (call_text call)) calls

-- the lines of the written history are the calls, and the history is legal if and only if the
-- order of the calls is a linearization
pub record IsTheirHistory (calls : List Call) : Type 0 where
  pub listed : Lists (history_text calls) calls
  pub judged : (n : ℕ) → (is_legal (verdict_on n (history_text calls)) ≡ true)
      ↔ IsLinearization n calls

-- the written history of any completed, undetermined and pending calls is read back as those calls,
-- and judged by their order
abbrev pub HistoriesAreRead : Type 0
HistoriesAreRead = (calls : List Call) → AreWritten calls → IsTheirHistory calls
