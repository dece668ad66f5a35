-- The verdict of the judge on a text of attempts, as a function of all its bytes. Earlier attempts
-- are listed from the newest on.
use Rattle.std.specs.Prelude.{ℕ, ◌+◌, Bool, true, false, Option, Some, None, Result, Ok, Err, List, [], ◌∷◌, ◌++◌, map, length, codes, decimal, if◌then◌else◌}
use Rattle.vac_lines.specs.declared.fault.LineFault.{LineFault}
use Rattle.vac_lines.specs.Lines.{lines_of}
use Rattle.vac_lines.specs.Text.{fault_text}
use Rattle.vac_lines.specs.Script.{as_line}
use Rattle.judge_object.specs.declared.span.Misplaced.{Misplaced}
use Rattle.judge_object.specs.declared.span.Misplaced.TheVariants.{Client, Time}
use Rattle.judge_object.specs.Order.{misplaced, clients_of}
use Rattle.judge_opacity.specs.declared.finding.AttemptViolation.{AttemptViolation}
use Rattle.judge_opacity.specs.declared.finding.AttemptViolation.TheVariants as violation
use Rattle.judge_opacity.specs.declared.finding.Counts.{Counts}
use Rattle.judge_opacity.specs.declared.finding.Finding.{Finding}
use Rattle.judge_opacity.specs.declared.finding.Finding.TheVariants.{Opaque, Fault, Illegal}
use Rattle.judge_opacity.specs.Attempt.{Attempt, span_of_attempt, line_attempt}
use Rattle.judge_opacity.specs.Words.{left_by, wrong_read}

-- the fault of an attempt: a wrong position comes before a wrong read
abbrev pub place_first : Option Misplaced → Option AttemptViolation → Option AttemptViolation
place_first None rest = rest
place_first (Some wrong) rest = Some (violation.Place wrong)

-- the first fault of an attempt after these earlier attempts, or none
abbrev pub violation_of : List Attempt → Attempt → Option AttemptViolation
violation_of earlier attempt =
    place_first (misplaced span_of_attempt earlier attempt)
    (wrong_read (left_by earlier) attempt.accesses)

-- the number of committed attempts
abbrev pub committed_of : List Attempt → ℕ
committed_of [] = 0
committed_of (attempt ∷ earlier) =
    if attempt.commits then committed_of earlier + 1 else committed_of earlier

-- the counts of attempts that are all correct
abbrev pub counts_of : List Attempt → Counts
counts_of attempts = record {
  attempts = length attempts;
  committed = committed_of attempts;
  clients = clients_of span_of_attempt attempts;
}

-- a wrong attempt decides the verdict; otherwise the rest of the lines decides
abbrev pub unless_violation : Option AttemptViolation → ℕ → Finding → Finding
unless_violation None line rest = rest
unless_violation (Some violation) line rest = Illegal line violation

-- the verdict on these lines after earlier attempts, newest first
abbrev pub judged_attempts : List Attempt → List (Result Attempt LineFault) → Finding
judged_attempts earlier [] = Opaque (counts_of earlier)
judged_attempts earlier (Err fault ∷ rest) = Fault (length earlier + 1) fault
judged_attempts earlier (Ok attempt ∷ rest) =
    unless_violation (violation_of earlier attempt) (length earlier + 1)
    (judged_attempts (attempt ∷ earlier) rest)

-- the verdict on a text of attempts at this many words
abbrev pub finding_on : ℕ → List ℕ → Finding
finding_on words bytes = judged_attempts [] (map (line_attempt words) (lines_of bytes))

-- true if the verdict is that the order is opaque
abbrev pub is_opaque : Finding → Bool
is_opaque (Opaque counts) = true
is_opaque (Fault line fault) = false
is_opaque (Illegal line violation) = false

-- the text of counts
abbrev pub attempts_counts_text : Counts → List ℕ
attempts_counts_text counts =
    codes "attempts=" ++ decimal counts.attempts
    ++ codes " committed=" ++ decimal counts.committed
    ++ codes " clients=" ++ decimal counts.clients

-- the text of a wrong read: the line, the word and the expected value
abbrev pub read_text : ℕ → ℕ → ℕ → List ℕ
read_text line word expected =
    codes "illegal read " ++ decimal line ++ codes " " ++ decimal word
    ++ codes " " ++ decimal expected

-- the text of a wrong attempt
abbrev pub violation_text : AttemptViolation → ℕ → List ℕ
violation_text (violation.Place Client) line = codes "illegal client " ++ decimal line
violation_text (violation.Place Time) line = codes "illegal time " ++ decimal line
violation_text (violation.Read word expected) line = read_text line word expected

-- the text of a verdict, without a line end
abbrev pub verdict_text : Finding → List ℕ
verdict_text (Opaque counts) = codes "opaque " ++ attempts_counts_text counts
verdict_text (Fault line fault) = fault_text fault ++ codes " " ++ decimal line
verdict_text (Illegal line violation) = violation_text violation line

-- the output for a verdict
abbrev pub finding_text : Finding → List ℕ
finding_text finding = as_line (verdict_text finding)
