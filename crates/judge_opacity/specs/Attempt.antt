-- The attempt of a line of a text: CLIENT BEGIN END commit|abort, then the accesses in their
-- order: `r A V` for a read of V at word A, `w A V` for a write of V at word A.
use Rattle.std.specs.Prelude.{ℕ, Bool, true, false, Option, Some, None, Result, Ok, Err, List, [], ◌∷◌, length, nat_lt, codes, if◌then◌else◌}
use Rattle.std.specs.Option.{ok_or}
use Rattle.std.specs.List.{list_any}
use Rattle.std.specs.Str.{bytes_eq}
use Rattle.vac_lines.specs.declared.fault.LineFault.{LineFault}
use Rattle.vac_lines.specs.declared.fault.LineFault.TheVariants as fault
use Rattle.vac_lines.specs.Lines.{words_of}
use Rattle.vac_lines.specs.Words.{memory_word_of}
use Rattle.vac_lines.specs.LineTable.{◌>>=◌, is_bad_byte}
use Rattle.judge_object.specs.declared.span.Span.{Span}
use Rattle.vac_lines.specs.Client.{client_number}
use Rattle.judge_opacity.specs.declared.attempt.Access.{Access}
use Rattle.judge_opacity.specs.declared.attempt.Access.TheVariants.{Read, Write}
use Rattle.judge_opacity.specs.declared.attempt.TheConstants.{ATTEMPT_BYTES}

-- an attempt of a client at a transaction: its client and interval, whether the attempt committed,
-- and its reads and writes in their order. The attempt of a line of a text, not one of stm_core
pub record Attempt : Type 0 where
  pub span : Span
  pub commits : Bool
  pub accesses : List Access

-- the client and the interval of an attempt
abbrev pub span_of_attempt : Attempt → Span
span_of_attempt attempt = attempt.span

-- CLIENT: 0 to 4,294,967,295, of 1 to 10 digits
abbrev pub at_attempt_client : List ℕ → Result ℕ LineFault
at_attempt_client word = ok_or (client_number word) fault.BadNumber

-- BEGIN, END and V: 0 to 2 ^ 64 - 1, of 1 to 20 digits
abbrev pub at_memory_word : List ℕ → Result ℕ LineFault
at_memory_word word = ok_or (memory_word_of word) fault.BadNumber

-- the number of a word, if it is below the number of words; words are counted from 0
abbrev pub among : ℕ → Option ℕ → Option ℕ
among words None = None
among words (Some word) = if nat_lt word words then Some word else None

-- A: the number of a word, of 1 to 20 digits
abbrev pub at_word : ℕ → List ℕ → Result ℕ LineFault
at_word words text = ok_or (among words (memory_word_of text)) fault.BadNumber

-- true if a word is the first of two names, false if it is the second; none for any other word
abbrev pub first_of_two : List ℕ → List ℕ → List ℕ → Option Bool
first_of_two first second word =
    if bytes_eq word first then Some true
    else if bytes_eq word second then Some false
    else None

-- true if the attempt committed
abbrev pub at_outcome : List ℕ → Result Bool LineFault
at_outcome word = ok_or (first_of_two (codes "commit") (codes "abort") word) fault.BadCommand

-- true if the access is a read
abbrev pub at_access_kind : List ℕ → Result Bool LineFault
at_access_kind word = ok_or (first_of_two (codes "r") (codes "w") word) fault.BadKind

-- a read or a write of a value at a word
abbrev pub access_of : Bool → ℕ → ℕ → Access
access_of reads word value = if reads then Read word value else Write word value

-- the access that three words of a line write, or the first fault
abbrev pub at_access : ℕ → List ℕ → List ℕ → List ℕ → Result Access LineFault
at_access words kind word value = do
  reads ← at_access_kind kind
  word ← at_word words word
  value ← at_memory_word value
  Ok (access_of reads word value)

-- the accesses with one more access in front
abbrev pub onto_accesses : Access → Result (List Access) LineFault → Result (List Access) LineFault
onto_accesses access (Ok more) = Ok (access ∷ more)
onto_accesses access (Err fault) = Err fault

-- the accesses that the words of a line write, three words each, or the first fault
abbrev pub accesses_of : ℕ → List (List ℕ) → Result (List Access) LineFault
accesses_of words [] = Ok []
accesses_of words (kind ∷ word ∷ value ∷ more) =
    at_access words kind word value >>= λ access. onto_accesses access (accesses_of words more)
accesses_of words _ = Err fault.BadCount

-- the attempt that the words of a line write, or the first fault
abbrev pub words_attempt : ℕ → List (List ℕ) → Result Attempt LineFault
words_attempt words (client ∷ begin ∷ end ∷ outcome ∷ more) = do
  client ← at_attempt_client client
  begin ← at_memory_word begin
  end ← at_memory_word end
  commits ← at_outcome outcome
  accesses ← accesses_of words more
  Ok (record {
    span = record { client = client; begin = begin; end = end };
    commits = commits;
    accesses = accesses;
  })
words_attempt words _ = Err fault.BadCount

-- the attempt of a line that is not too long, or its first fault
abbrev pub text_attempt : ℕ → List ℕ → Result Attempt LineFault
text_attempt words line =
    if list_any is_bad_byte line then Err fault.BadByte else words_attempt words (words_of line)

-- the attempt of a line, or its first fault
abbrev pub line_attempt : ℕ → List ℕ → Result Attempt LineFault
line_attempt words line =
    if nat_lt ATTEMPT_BYTES (length line) then Err fault.LongLine else text_attempt words line
