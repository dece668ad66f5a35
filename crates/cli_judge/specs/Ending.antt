-- The last line and the status of the judge: 0 yes, 1 no, 2 a refused command line, 3 undecided, 4
-- a fault of a stream or of memory.
use Rattle.std.specs.Prelude.{◌≡◌, ◌⊎◌, ℕ, Bool, true, false, Option, Result, Ok, Err, List, codes}
use Rattle.std.specs.Io.KnownBytes.{Appends}
use Rattle.vac_lines.specs.Script.{as_line}
use Rattle.vac_lines.specs.Writing.{AppendsPrefix}
use Rattle.vac_lines.specs.declared.stream_fault.StreamFault.{StreamFault}
use Rattle.cli_common.specs.Ending.{EndsBy, fault_line}
use Rattle.cli_judge.specs.declared.status.TheConstants.{FAULT}

-- the last line if a file could not be opened
abbrev pub unopened_line : List ℕ
unopened_line = as_line (codes "fault open")

-- the status is 0 and the work was done, or the status is 4 and the work was stopped
abbrev pub EndsWithStatus : ℕ → Type 0 → Type 0 → Type 0
EndsWithStatus status done stopped = EndsBy FAULT status done stopped

-- the status is 0 and the answer is yes, or the status is 1 and the answer is no, or the status is
-- 4 and a fault stopped the judge
-- Not said: that the line of a fault is written, or written completely; that the line names the
-- fault that was met; that the output is flushed. Tests use streams that fail.
abbrev pub EndsWithVerdict : ℕ → Type 0 → Type 0 → Type 0 → Type 0
EndsWithVerdict status positive negative stopped =
    ((status ≡ 0) × positive) ⊎ (((status ≡ 1) × negative) ⊎ ((status ≡ FAULT) × stopped))

-- the end of the program after a judgement: the status is 0 if the verdict is positive, and 1
-- otherwise; after a fault the status is 4, and a prefix of the line that names the fault was
-- written
abbrev pub EndsJudged : Result Bool StreamFault → ℕ → Option (List ℕ) → Option (List ℕ) → Type 0
EndsJudged (Ok true) status held holds = (status ≡ 0) × (holds ≡ held)
EndsJudged (Ok false) status held holds = (status ≡ 1) × (holds ≡ held)
EndsJudged (Err fault) status held holds =
    (status ≡ FAULT) × AppendsPrefix held holds (fault_line fault)

-- a text was written and the status is this one, or a prefix of the text was written and the status
-- is 4
abbrev pub EndsWith : ℕ → List ℕ → ℕ → Option (List ℕ) → Option (List ℕ) → Type 0
EndsWith done text status held holds = ((status ≡ done) × Appends held holds text)
    ⊎ ((status ≡ FAULT) × AppendsPrefix held holds text)
