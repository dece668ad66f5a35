-- Writing the part of a history, or of its cut: status, input and output.
use Rattle.std.specs.Prelude.{◌≡◌, ◌⊎◌, ℕ, true, false, Option, Some, None, List, map}
use Rattle.judge_part_text.specs.Naming.{Named, names_of}
use Rattle.judge_part_text.specs.Parting.{HasParted, HasPartedInPart}
use Rattle.judge_part_text.specs.Until.{HasPartedUntil, HasPartedUntilInPart}
use Rattle.judge_options.specs.declared.asked.PartWords.{PartWords}
use Rattle.vac_lines.specs.Writing.{AppendsPrefix}
use Rattle.vac_lines.specs.declared.stream_fault.StreamFault.TheVariants.{Memory}
use Rattle.cli_judge.specs.Ending.{EndsWithVerdict}
use Rattle.cli_common.specs.Ending.{fault_line}
use Rattle.cli_judge.specs.declared.status.TheConstants.{FAULT}
use Rattle.cli_judge.specs.Judging.{NamedAlone}

-- a fault ended the writing of a part: either the output failed, and a prefix of the text was
-- written; or another fault was met, and only a prefix of the line that names a fault was written
-- Not said: which fault stands for which cause.
abbrev pub PartStopped : Named → Option (List ℕ) → Option (List ℕ) → Option (List ℕ)
    → Option (List ℕ) → Type 0
PartStopped names unread left held holds =
    HasPartedInPart names unread left held holds ⊎ NamedAlone held holds

-- as `PartStopped`, for the part of the cut of a history at the end of the call of a line
abbrev pub CutStopped : Named → ℕ → Option (List ℕ) → Option (List ℕ) → Option (List ℕ)
    → Option (List ℕ) → Type 0
CutStopped names line unread left held holds =
    HasPartedUntilInPart names line unread left held holds ⊎ NamedAlone held holds

-- the program writes the part of a history on the scope of these customers and items, or, if a
-- line is given, the part of its cut at the end of the call of that line; the status is 0 if the
-- part was written, and 1 if there is none
abbrev pub WritesPart : Named → Option ℕ → ℕ → Option (List ℕ) → Option (List ℕ)
    → Option (List ℕ) → Option (List ℕ) → Type 0
WritesPart names None status unread left held holds =
    EndsWithVerdict status (HasParted names true unread left held holds)
    (HasParted names false unread left held holds) (PartStopped names unread left held holds)
WritesPart names (Some line) status unread left held holds =
    EndsWithVerdict status (HasPartedUntil names line true unread left held holds)
    (HasPartedUntil names line false unread left held holds)
    (CutStopped names line unread left held holds)

-- the program writes the part of a history, or of its cut, on a scope, if there is one; otherwise
-- the command line is refused, nothing is read, and nothing is written to the output
abbrev pub WritesPartIf : Option Named → Option ℕ → ℕ → Option (List ℕ) → Option (List ℕ)
    → Option (List ℕ) → Option (List ℕ) → Type 0
WritesPartIf (Some names) until status unread left held holds =
    WritesPart names until status unread left held holds
WritesPartIf None until status unread left held holds =
    (status ≡ 2) × (left ≡ unread) × (holds ≡ held)

-- the scope that the words of a command line name
abbrev pub named_by : PartWords → Option Named
named_by words =
    names_of (map (λ word. word.now) words.customers.items)
    (map (λ word. word.now) words.items.items)

-- the program writes the part of a history on the scope that the words name, if they name one, or
-- the part of its cut, if they give a line; or memory for the scope was refused, nothing is read,
-- and a prefix of the line that says so was written
abbrev pub WritesPartOf : PartWords → ℕ → Option (List ℕ) → Option (List ℕ)
    → Option (List ℕ) → Option (List ℕ) → Type 0
WritesPartOf words status unread left held holds =
    WritesPartIf (named_by words) words.until status unread left held holds
    ⊎ ((status ≡ FAULT) × (left ≡ unread) × AppendsPrefix held holds (fault_line Memory))
