-- The judgement of a history: status, input and output.
use Rattle.std.specs.Prelude.{◌≡◌, ◌≢◌, ◌⊎◌, ℕ, Bool, true, false, Option, Some, None, List}
use Rattle.vac_lines.specs.Writing.{AppendsPrefix}
use Rattle.vac_lines.specs.declared.stream_fault.StreamFault.{StreamFault}
use Rattle.vac_lines.specs.declared.stream_fault.StreamFault.TheVariants.{Memory, Write}
use Rattle.judge_calls.specs.Reading.{HasJudged, HasJudgedInPart}
use Rattle.judge_calls.specs.HeldReading.{HasChecked, HasCheckedInPart}
use Rattle.cli_judge.specs.Ending.{EndsWithVerdict, unopened_line}
use Rattle.cli_common.specs.Ending.{fault_line}
use Rattle.cli_judge.specs.declared.status.TheConstants.{FAULT}

-- a fault other than a failing output ended the command, and only a prefix of the line that names
-- the fault was written
-- Not said: which fault stands for which cause.
abbrev pub NamedAlone : Option (List ℕ) → Option (List ℕ) → Type 0
NamedAlone held holds = (fault : StreamFault) × (fault ≢ Write)
    × AppendsPrefix held holds (fault_line fault)

-- a fault ended a judgement: either the output failed, and a prefix of the verdict was written; or
-- another fault was met, and only a prefix of the line that names a fault was written
-- Not said: which fault stands for which cause.
abbrev pub JudgeStopped : ℕ → Option (List ℕ) → Option (List ℕ) → Option (List ℕ)
    → Option (List ℕ) → Type 0
JudgeStopped blocks unread left held holds =
    HasJudgedInPart blocks unread left held holds ⊎ NamedAlone held holds

-- the program judges a history; the status is 0 if the history is legal, and 1 if it is not
abbrev pub Judges : ℕ → ℕ → Option (List ℕ) → Option (List ℕ) → Option (List ℕ)
    → Option (List ℕ) → Type 0
Judges blocks status unread left held holds =
    EndsWithVerdict status (HasJudged blocks true unread left held holds)
    (HasJudged blocks false unread left held holds)
    (JudgeStopped blocks unread left held holds)

-- a history was judged and checked against the workload in a file with these bytes; `legal` says
-- whether the history is legal and has all tasks of the workload
-- Not said: how much of the workload is left to read, because no contract knows these bytes.
abbrev pub HasHeldFile : Option (List ℕ) → ℕ → Bool → Option (List ℕ) → Option (List ℕ)
    → Option (List ℕ) → Option (List ℕ) → Type 0
HasHeldFile tasks blocks legal unread left held holds =
    (rest : Option (List ℕ)) × HasChecked blocks legal tasks rest unread left held holds

-- a fault ended the judgement against a workload: either the output failed, and a prefix of the
-- verdict was written; or another fault was met, and only a prefix of the line that names a fault
-- was written
-- Not said: which fault stands for which cause.
abbrev pub WorkStopped : Option (List ℕ) → ℕ → Option (List ℕ) → Option (List ℕ)
    → Option (List ℕ) → Option (List ℕ) → Type 0
WorkStopped tasks blocks unread left held holds =
    ((rest : Option (List ℕ)) × HasCheckedInPart blocks tasks rest unread left held holds)
    ⊎ NamedAlone held holds

-- the file of the workload was not opened: a prefix of the line that says so was written, or a
-- prefix of the line of refused memory
-- Not said: that the file could not be opened.
abbrev pub NotOpened : ℕ → Option (List ℕ) → Option (List ℕ) → Type 0
NotOpened status held holds = (status ≡ FAULT) × (AppendsPrefix held holds unopened_line
    ⊎ AppendsPrefix held holds (fault_line Memory))

-- the program judges a history and checks it against a workload with these bytes; the status is 0
-- if the history is legal and has all tasks of the workload, and 1 if not
abbrev pub JudgesHeld : Option (List ℕ) → ℕ → ℕ → Option (List ℕ) → Option (List ℕ)
    → Option (List ℕ) → Option (List ℕ) → Type 0
JudgesHeld tasks blocks status unread left held holds =
    EndsWithVerdict status (HasHeldFile tasks blocks true unread left held holds)
    (HasHeldFile tasks blocks false unread left held holds)
    (WorkStopped tasks blocks unread left held holds)

-- the program judges a history and checks it against the workload in a file; if the file was not
-- opened, no input is read
abbrev pub JudgesWork : Option (List ℕ) → ℕ → ℕ → Option (List ℕ) → Option (List ℕ)
    → Option (List ℕ) → Option (List ℕ) → Type 0
JudgesWork tasks blocks status unread left held holds =
    JudgesHeld tasks blocks status unread left held holds
    ⊎ ((left ≡ unread) × NotOpened status held holds)

-- the program judges a history, and checks it against a workload with these bytes if one is given
abbrev pub JudgesWith : Option (Option (List ℕ)) → ℕ → ℕ → Option (List ℕ) → Option (List ℕ)
    → Option (List ℕ) → Option (List ℕ) → Type 0
JudgesWith None blocks status unread left held holds = Judges blocks status unread left held holds
JudgesWith (Some tasks) blocks status unread left held holds =
    JudgesHeld tasks blocks status unread left held holds
