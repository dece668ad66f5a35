-- The line of an attempt: CLIENT BEGIN END commit|abort, and then `r A V` for a read of V at word
-- A and `w A V` for a write.
use Rattle.std.specs.Prelude.{ℕ, Bool, true, false, List, ◌++◌, flat_map, codes, decimal}
use Rattle.tx_memory.specs.declared.access.Access.{Access}
use Rattle.tx_memory.specs.declared.access.Access.TheVariants.{Read, Write}
use Rattle.vac_lines.specs.Script.{as_line}
use Rattle.vac_model.specs.ReplyText.{field_text}
use Rattle.vac_manager.specs.declared.note.TracedAttempt.{TracedAttempt}
use Rattle.load_record.specs.declared.lines.Line.{Line}

-- an attempt, with the number of its client
pub record AttemptEntry : Type 0 where
  pub client : ℕ
  pub attempt : TracedAttempt

-- the entry of a line that is to be written
abbrev pub line_entry : Line → AttemptEntry
line_entry line = record { client = line.client; attempt = line.attempt.now }

-- the text of a read or a write, after a space
abbrev pub access_text : Access → List ℕ
access_text (Read addr value) = field_text (codes " r ") addr.0 ++ field_text (codes " ") value
access_text (Write addr value) = field_text (codes " w ") addr.0 ++ field_text (codes " ") value

-- the text of reads and writes, in this order
abbrev pub accesses_text : List Access → List ℕ
accesses_text accesses = flat_map access_text accesses

-- the text that says whether the attempt committed, after a space
abbrev pub outcome_text : Bool → List ℕ
outcome_text true = codes " commit"
outcome_text false = codes " abort"

-- the text of the attempt's client, begin, end and outcome
abbrev pub head_text : AttemptEntry → List ℕ
head_text e =
    decimal e.client ++ field_text (codes " ") e.attempt.begin
    ++ field_text (codes " ") e.attempt.end ++ outcome_text e.attempt.commits

-- the line of an attempt
abbrev pub line_text : AttemptEntry → List ℕ
line_text e = as_line (head_text e ++ accesses_text e.attempt.accesses.items)

-- the lines of attempts, in this order
abbrev pub lines_text : List AttemptEntry → List ℕ
lines_text entries = flat_map line_text entries
