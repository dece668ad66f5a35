-- The steps in which the code reads a line.
use Rattle.std.specs.Prelude.{⊤, ℕ, ◌<◌, Option, Some, None, Result, Ok, Err, List, [], ◌∷◌, ◌++◌}
use Rattle.std.specs.Borrow.{Bor}
use Rattle.vac_lines.specs.declared.fault.LineFault.{LineFault}
use Rattle.vac_lines.specs.Lines.{words_of}
use Rattle.vac_lines.specs.LineTable.{◌>>=◌}
use Rattle.judge_object.specs.declared.span.Span.{Span}
use Rattle.judge_opacity.specs.declared.attempt.Access.{Access}
use Rattle.judge_opacity.specs.declared.attempt.Access.TheVariants.{Read, Write}
use Rattle.judge_opacity.specs.declared.attempt.Head.{Head}
use Rattle.judge_opacity.specs.Attempt.{Attempt, at_attempt_client, at_memory_word}

-- the words that are left of a line
abbrev pub words_left : Option (Bor (List ℕ)) → List (List ℕ)
words_left None = []
words_left (Some text) = words_of text.now

-- the client and the interval that three words write, or the first fault
abbrev pub read_span : List ℕ → List ℕ → List ℕ → Result Span LineFault
read_span client begin end = do
  client ← at_attempt_client client
  begin ← at_memory_word begin
  end ← at_memory_word end
  Ok (record { client = client; begin = begin; end = end })

-- the attempt with this head and these accesses
abbrev pub attempt_of : Head → List Access → Attempt
attempt_of head accesses =
    record { span = head.span; commits = head.commits; accesses = accesses }

-- the attempt with this head and these accesses, or the fault of the accesses
abbrev pub with_accesses : Head → Result (List Access) LineFault → Result Attempt LineFault
with_accesses head (Ok accesses) = Ok (attempt_of head accesses)
with_accesses head (Err fault) = Err fault

-- accesses in front of further accesses
abbrev pub put_before : List Access → Result (List Access) LineFault
    → Result (List Access) LineFault
put_before accesses (Ok more) = Ok (accesses ++ more)
put_before accesses (Err fault) = Err fault

-- the access is to one of this many words
abbrev pub IsAmong : ℕ → Access → Type 0
IsAmong words (Read word value) = word < words
IsAmong words (Write word value) = word < words

-- each of the accesses is to one of this many words
abbrev pub AllAmong : ℕ → List Access → Type 0
AllAmong words [] = ⊤
AllAmong words (access ∷ more) = IsAmong words access × AllAmong words more
