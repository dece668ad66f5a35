-- The part of a history on a scope.
use Rattle.std.specs.Prelude.{◌≡◌, ℕ, Bool, true, false, not, ◌&&◌, ◌||◌, ◌⊎◌, Option, Some, None, is_some, List, filter_map, nat_le, nat_lt}
use Rattle.std.specs.Option.{option_map}
use Rattle.vac_model.specs.declared.tasks.Task.{Task}
use Rattle.vac_model.specs.Ranges.{is_task}
use Rattle.judge_object.specs.declared.span.TheConstants.{NEVER}
use Rattle.judge_object.specs.Call.{Call, EachCall}
use Rattle.judge_reservations.specs.declared.scope.Scope.{Scope}
use Rattle.judge_reservations.specs.Tasks.{Answered}
use Rattle.judge_reservations.specs.Completed.{task_part, answer_fits}
use Rattle.judge_reservations.specs.Pending.{pending_part, pending_fits}

-- a call with another task and another reply
abbrev pub with_answered : Call Task → Answered → Call Task
with_answered call a = record {
  client = call.client;
  begin = call.begin;
  end = call.end;
  op = a.0;
  reply = Some a.1;
}

-- a call whose reply is unknown, with another task
abbrev pub with_pending : Call Task → Task → Call Task
with_pending call t = record {
  client = call.client;
  begin = call.begin;
  end = call.end;
  op = t;
  reply = None;
}

-- the part of a call, given its reply. The part ends when the call ends: the part of a pending call
-- is pending, and its reply is known if the reply of the call is
abbrev pub replied_part : Scope → Call Task → Option (List ℕ) → Option (Call Task)
replied_part scope call None = option_map (with_pending call) (pending_part scope call.op)
replied_part scope call (Some text) = option_map (with_answered call) (task_part scope call.op text)

-- the part of a call
abbrev pub part_of_call : Scope → Call Task → Option (Call Task)
part_of_call scope call = replied_part scope call call.reply

-- the parts of calls, in their order
abbrev pub part_of_history : Scope → List (Call Task) → List (Call Task)
part_of_history scope calls = filter_map (part_of_call scope) calls

-- tests if a call with this reply has a part, and books nothing that the scope does not allow
abbrev pub reply_fits : Scope → Task → Option (List ℕ) → Bool
reply_fits scope t None = pending_fits scope t
reply_fits scope t (Some text) = answer_fits scope t text

-- tests if a call has a part, and books nothing that the scope does not allow
abbrev pub fits : Scope → Call Task → Bool
fits scope call = is_task call.op && reply_fits scope call.op call.reply

-- tests if the reply of a call is unknown and the call has a part
abbrev pub waits : Scope → Call Task → Bool
waits scope call = not (is_some call.reply) && is_some (pending_part scope call.op)

-- tests if a call begins before the time that no reading of the clock reaches, and ends no sooner
-- than that time if its reply is unknown
abbrev pub is_timed : Call Task → Bool
is_timed call = nat_lt call.begin NEVER && (is_some call.reply || nat_le NEVER call.end)

-- each call is timed, unless no call has a part whose reply is unknown
abbrev pub AreTimed : Scope → List (Call Task) → Type 0
AreTimed scope calls =
    EachCall (λ call. waits scope call ≡ false) calls
    ⊎ EachCall (λ call. is_timed call ≡ true) calls
