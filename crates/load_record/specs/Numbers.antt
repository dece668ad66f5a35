-- The numbers of recorded calls, and the lines of their tasks.
use Rattle.std.specs.Prelude.{◌≡◌, ◌≤◌, ◌<◌, ◌^◌, ℕ, true, List, length}
use Rattle.std.specs.List.{All}
use Rattle.std.specs.Prelude.{slice_index_or}
use Rattle.std.proofs.Props.{props}
use mathlib.Core.HLevel.{Π_prop}
use Rattle.vac_model.specs.declared.replies.Reply.{Reply}
use Rattle.vac_model.specs.declared.replies.Reply.TheVariants as reply
use Rattle.vac_model.specs.Ranges.{is_task}
use Rattle.vac_lines.specs.declared.line.TheConstants.{LINE_BYTES}
use Rattle.vac_model.specs.TaskText.{task_text}
use Rattle.vac_manager.specs.declared.note.CompletedCall.{CompletedCall}
use Rattle.judge_calls.specs.CallText.{IsReply}
use Rattle.load_record.specs.Order.{list_at}

-- each call ended at a time of 64 bits
abbrev pub EndInTime : List CompletedCall → Type 0
EndInTime notes = All (λ n. n.end < 2 ^ 64) notes

-- the numbers of each reply are in the ranges of its type
abbrev pub HaveReplies : List CompletedCall → Type 0
HaveReplies notes = All (λ n. IsReply n.reply) notes

-- the statement that a reply is in its ranges has at most one proof
IsReply-prop : (r : Reply) → IsProp (IsReply r)
IsReply-prop reply.Done = hlevel props
IsReply-prop (reply.Number n) = hlevel props
IsReply-prop (reply.Report r) = hlevel props
IsReply-prop (reply.No why) = hlevel props
IsReply-prop (reply.Trip t) = hlevel props
IsReply-prop (reply.Update u) = hlevel props

-- the statement that all replies are in their ranges has at most one proof
pub HaveReplies-prop : (notes : List CompletedCall) → IsProp (HaveReplies notes)
HaveReplies-prop notes =
    Π_prop (λ k. Π_prop (λ n. Π_prop (λ _. IsReply-prop (slice_index_or notes k n).reply)))

-- the task of the call can be issued, and its line is no longer than a line may be
pub record HasLine (n : CompletedCall) : Type 0 where
  pub task : is_task n.task ≡ true
  pub line : length (task_text n.task) ≤ LINE_BYTES

-- each call of each client has a line
abbrev pub EachHasLines : List (List CompletedCall) → Type 0
EachHasLines kept = (place : ℕ) → All HasLine (list_at kept place)
