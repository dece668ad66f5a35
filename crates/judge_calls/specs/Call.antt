-- The call of a line of a history: CLIENT BEGIN END LINE -> REPLY for a completed call,
-- CLIENT BEGIN - LINE -> ? for a pending call whose reply is not known, or
-- CLIENT BEGIN - LINE -> REPLY for an undetermined call. An undetermined call is a pending call
-- that took effect with exactly this reply, or never took effect.
use Rattle.std.specs.Prelude.{ℕ, Option, Some, None, Result, Ok, Err, List, ◌∷◌, length, nat_lt, codes, if◌then◌else◌}
use Rattle.std.specs.Option.{ok_or}
use Rattle.std.specs.Prelude.{Bool, ◌&&◌, not}
use Rattle.std.specs.List.{list_any, join_with_byte, before_first, after_first}
use Rattle.std.specs.Str.{bytes_eq}
use Rattle.vac_model.specs.declared.tasks.Task.{Task}
use Rattle.judge_object.specs.Call as object
use Rattle.vac_lines.specs.declared.fault.LineFault.{LineFault}
use Rattle.vac_lines.specs.declared.fault.LineFault.TheVariants.{LongLine, BadByte, BadNumber}
use Rattle.vac_lines.specs.Lines.{words_of}
use Rattle.vac_lines.specs.Words.{memory_word_of}
use Rattle.vac_lines.specs.Client.{client_number}
use Rattle.vac_lines.specs.LineTable.{line_task, is_bad_byte}
use Rattle.judge_calls.specs.declared.fault.CallFault.{CallFault}
use Rattle.judge_calls.specs.declared.fault.CallFault.TheVariants.{BadCall, Line}
use Rattle.judge_calls.specs.declared.call.TheConstants.{CALL_BYTES}
use Rattle.judge_object.specs.declared.span.TheConstants.{NEVER}

-- a call whose operation is a task
abbrev pub Call : Type 0
Call = object.Call Task

-- true if the word is the arrow between a task's line and its reply
abbrev pub is_arrow : List ℕ → Bool
is_arrow word = bytes_eq word (codes "->")

-- the texts of which a call's line consists
pub record CallTexts : Type 0 where
  pub client : List ℕ
  pub begin : List ℕ
  pub end : List ℕ
  pub line : List ℕ
  pub reply : List ℕ

-- the text of some words, joined by spaces
abbrev pub joined_words : List (List ℕ) → List ℕ
joined_words words = join_with_byte 32 words

-- the parts of a line from the words before and after the arrow; there are none unless four words
-- or more stand before the arrow and one or more after it
abbrev pub parts_of : List (List ℕ) → List (List ℕ) → Option CallTexts
parts_of (client ∷ begin ∷ end ∷ word ∷ words) (reply ∷ more) =
    Some (record {
      client = client;
      begin = begin;
      end = end;
      line = joined_words (word ∷ words);
      reply = joined_words (reply ∷ more);
    })
parts_of _ _ = None

-- the parts of a line, cut at the first word that is an arrow
abbrev pub call_parts : List ℕ → Option CallTexts
call_parts line =
    parts_of (before_first is_arrow (words_of line)) (after_first is_arrow (words_of line))

infixl 10 ◌>>=◌
-- continues with the result of a reading step; the first fault ends the reading (as in vac_lines,
-- for other faults)
abbrev pub ◌>>=◌ : {A B : Type 0} → Result A CallFault → (A → Result B CallFault)
    → Result B CallFault
(Ok x) >>= f = f x
(Err e) >>= f = Err e

-- CLIENT: 0 to 4,294,967,295, of 1 to 10 digits
abbrev pub at_client : List ℕ → Result ℕ CallFault
at_client word = ok_or (client_number word) (Line BadNumber)

-- BEGIN and END: 0 to 2 ^ 64 - 1, of 1 to 20 digits
abbrev pub at_time : List ℕ → Result ℕ CallFault
at_time word = ok_or (memory_word_of word) (Line BadNumber)

-- true if the word stands in the place of END and marks a pending call
abbrev pub is_no_end : List ℕ → Bool
is_no_end word = bytes_eq word (codes "-")

-- true if the text stands in the place of REPLY and marks a reply that is not known
abbrev pub is_no_reply : List ℕ → Bool
is_no_reply text = bytes_eq text (codes "?")

-- true if END is that of a completed call, and REPLY marks a reply that is not known
abbrev pub lacks_reply : List ℕ → List ℕ → Bool
lacks_reply end reply = not (is_no_end end) && is_no_reply reply

-- END of a call; the END of a pending call is NEVER, which is later than all times
abbrev pub at_end : List ℕ → Result ℕ CallFault
at_end word = if is_no_end word then Ok NEVER else at_time word

-- the text of the reply, or none if it is not known
abbrev pub reply_at : List ℕ → Option (List ℕ)
reply_at text = if is_no_reply text then None else Some text

-- turns a fault of the task's line into a fault of the call's line
abbrev pub as_call_fault : {A : Type 0} → Result A LineFault → Result A CallFault
as_call_fault (Ok x) = Ok x
as_call_fault (Err fault) = Err (Line fault)

-- the call of the parts of a line, or the first fault, if a completed call has a reply
abbrev pub whole_call : CallTexts → Result Call CallFault
whole_call parts = do
  client ← at_client parts.client
  begin ← at_time parts.begin
  end ← at_end parts.end
  task ← as_call_fault (line_task parts.line)
  Ok (record {
    client = client;
    begin = begin;
    end = end;
    op = task;
    reply = reply_at parts.reply;
  })

-- the call of the parts of a line, or the first fault
abbrev pub parts_call : CallTexts → Result Call CallFault
parts_call parts =
    if lacks_reply parts.end parts.reply then Err BadCall else whole_call parts

-- the call of a line, or the first fault of the line
abbrev pub line_call : List ℕ → Result Call CallFault
line_call line =
    if nat_lt CALL_BYTES (length line) then Err (Line LongLine)
    else if list_any is_bad_byte line then Err (Line BadByte)
    else (ok_or (call_parts line) BadCall >>= parts_call)
