-- Which call a line stands for: CLIENT BEGIN END OPERATION -> REPLY. In a pending call END is -,
-- and REPLY is ? if the reply is unknown. Words are cut at every single space.
use Rattle.std.specs.Prelude.{ℕ, ◌-◌, Option, Some, None, Result, Ok, Err, List, [], length, take, drop, get_or, nat_lt, codes, if◌then◌else◌}
use Rattle.std.specs.Str.{bytes_eq}
use Rattle.vac_lines.specs.Lines.{words_of}
use Rattle.vac_lines.specs.Words.{memory_word_of}
use Rattle.vac_lines.specs.Client.{client_number}
use Rattle.judge_object.specs.declared.span.Span.{Span}
use Rattle.judge_object.specs.declared.span.TheConstants.{NEVER}
use Rattle.judge_object.specs.Call.{Call}
use Rattle.judge_object.specs.Rules.{Rules}
use Rattle.judge_text.specs.Language.{Language}
use Rattle.judge_text.specs.declared.fault.CallFault.{CallFault}
use Rattle.judge_text.specs.declared.fault.CallFault.TheVariants.{BadCall, BadNumber, BadOperation, BadReply, HalfCall}

-- END: later than all times in a pending call
abbrev pub end_number : List ℕ → Option ℕ
end_number word = if bytes_eq word (codes "-") then Some NEVER else memory_word_of word

-- CLIENT, BEGIN and END, if each was read
abbrev pub span_from : Option ℕ → Option ℕ → Option ℕ → Option Span
span_from (Some client) (Some begin) (Some end) =
    Some (record { client = client; begin = begin; end = end })
span_from (Some client) (Some begin) None = None
span_from (Some client) None end = None
span_from None begin end = None

-- what three words say of who called, and when
abbrev pub words_span : List ℕ → List ℕ → List ℕ → Option Span
words_span client begin end =
    span_from (client_number client) (memory_word_of begin) (end_number end)

-- the word at a place
abbrev pub word_at : List (List ℕ) → ℕ → List ℕ
word_at words place = get_or words place []

-- the words between END and the arrow
abbrev pub operation_words : List (List ℕ) → List (List ℕ)
operation_words words = take (length words - 5) (drop 3 words)

module _ {O R : Type 0} (L : Language O R) where
  -- a reply that was read
  abbrev pub some_reply : Option R → Option (Option R)
  some_reply None = None
  some_reply (Some reply) = Some (Some reply)

  -- REPLY: ? if the reply of a pending call is unknown
  abbrev pub word_reply : List ℕ → Option (Option R)
  word_reply word = if bytes_eq word (codes "?") then Some None else some_reply (L.reply word)

module _ {S O R : Type 0} (X : Rules S O R) where
  -- the text of a reply, if there is one
  abbrev pub reply_text : Option R → Option (List ℕ)
  reply_text None = None
  reply_text (Some reply) = Some (X.text reply)

  -- the call of these parts
  abbrev pub call_of_parts : Span → O → Option R → Call O
  call_of_parts span op reply = record {
    client = span.client;
    begin = span.begin;
    end = span.end;
    op = op;
    reply = reply_text reply;
  }

  -- the call of these parts; a completed call has a reply. If a pending call has one, it gave this
  -- reply or never took effect
  abbrev pub whole_call : Span → O → Option R → Result (Call O) CallFault
  whole_call span op None =
      if nat_lt span.end NEVER then Err HalfCall else Ok (call_of_parts span op None)
  whole_call span op (Some reply) = Ok (call_of_parts span op (Some reply))

  -- the call of parts that were read, or the first fault
  abbrev pub parts_call : Option Span → Option O → Option (Option R) → Result (Call O) CallFault
  parts_call None op reply = Err BadNumber
  parts_call (Some span) None reply = Err BadOperation
  parts_call (Some span) (Some op) None = Err BadReply
  parts_call (Some span) (Some op) (Some reply) = whole_call span op reply

  module _ (L : Language O R) where
    -- the call of words in which the arrow is the last but one
    abbrev pub arrow_call : List (List ℕ) → Result (Call O) CallFault
    arrow_call words =
        parts_call (words_span (word_at words 0) (word_at words 1) (word_at words 2))
        (L.operation (operation_words words)) (word_reply L (word_at words (length words - 1)))

    -- the call of these words, or its first fault
    abbrev pub words_call : List (List ℕ) → Result (Call O) CallFault
    words_call words =
        if nat_lt (length words) 6 then Err BadCall
        else if bytes_eq (word_at words (length words - 2)) (codes "->") then arrow_call words
        else Err BadCall

    -- the call of a line, or its first fault
    abbrev pub line_call : List ℕ → Result (Call O) CallFault
    line_call line = words_call (words_of line)
