-- The program's judges of calls and of attempts, by what the command line asks for.
use Rattle.std.specs.Prelude.{◌≡◌, ◌⊎◌, ◌&&◌, ◌||◌, ℕ, Bool, true, false, Option, Some, None}
use Rattle.std.specs.Prelude.{List, is_some}
use Rattle.std.specs.Borrow.{Bor}
use Rattle.judge_opacity.specs.Reading.{HasJudgedAttempts, HasJudgedAttemptsInPart}
use Rattle.judge_opacity.specs.Placed.{HasPlaced, HasPlacedInPart}
use Rattle.judge_object.specs.declared.level.Level.{Level}
use Rattle.judge_object.specs.declared.level.Level.TheVariants.{Linearizable}
use Rattle.judge_options.specs.declared.asked.JudgeSettings.{JudgeSettings}
use Rattle.cli_judge.specs.Ending.{EndsWithVerdict}
use Rattle.cli_judge.specs.Judging.{Judges, JudgesWork, NamedAlone}
use Rattle.cli_judge.specs.Ordering.{JudgesAnyOrder, JudgesAnyWork}

-- the program judges a history in the order of its lines, or in an order of a level that it finds;
-- if a file is named, the history is also checked against the workload in the file, whose bytes are
-- those that `files` gives for its name, and the order that is searched for is a linearization
abbrev pub JudgesAs : (List ℕ → Option (List ℕ)) → Bool → Option (Bor (List ℕ)) → Level → ℕ → ℕ
    → ℕ → Option (List ℕ) → Option (List ℕ) → Option (List ℕ) → Option (List ℕ) → Type 0
JudgesAs files true None kept blocks steps status unread left held holds =
    Judges blocks status unread left held holds
JudgesAs files true (Some name) kept blocks steps status unread left held holds =
    JudgesWork (files name.now) blocks status unread left held holds
JudgesAs files false None kept blocks steps status unread left held holds =
    JudgesAnyOrder kept blocks steps status unread left held holds
JudgesAs files false (Some name) kept blocks steps status unread left held holds =
    JudgesAnyWork (files name.now) blocks steps status unread left held holds

-- true if the words give settings of a search, and ask for the given order
abbrev pub has_stray_settings : JudgeSettings → Bool
has_stray_settings how = how.names_search && how.given_order

-- true if the level keeps less order than linearizability
abbrev pub is_below : Level → Bool
is_below Linearizable = false
is_below kept = true

-- true if the words name a file of tasks, and a level below linearizability
abbrev pub has_tasks_below : JudgeSettings → Bool
has_tasks_below how = is_some how.tasks && is_below how.search.level

-- true if the command line of a judge is refused
abbrev pub is_refused : JudgeSettings → Bool
is_refused how = has_stray_settings how || has_tasks_below how

-- the command line is refused: nothing is read, and nothing is written to the output
-- Not said: the text on standard error.
abbrev pub Refuses : ℕ → Option (List ℕ) → Option (List ℕ) → Option (List ℕ) → Option (List ℕ)
    → Type 0
Refuses status unread left held holds = (status ≡ 2) × (left ≡ unread) × (holds ≡ held)

-- the program refuses the command line, or judges a history as the command line asks
abbrev pub JudgesUnless : Bool → (List ℕ → Option (List ℕ)) → JudgeSettings → ℕ → Option (List ℕ)
    → Option (List ℕ) → Option (List ℕ) → Option (List ℕ) → Type 0
JudgesUnless true files how status unread left held holds = Refuses status unread left held holds
JudgesUnless false files how status unread left held holds =
    JudgesAs files how.given_order how.tasks how.search.level how.blocks how.search.steps status
    unread left held holds

-- the program judges a history as the command line asks, unless the command line is refused
abbrev pub JudgesAsked : (List ℕ → Option (List ℕ)) → JudgeSettings → ℕ → Option (List ℕ)
    → Option (List ℕ) → Option (List ℕ) → Option (List ℕ) → Type 0
JudgesAsked files how status unread left held holds =
    JudgesUnless (is_refused how) files how status unread left held holds

-- a fault ended a judgement of attempts: either the output failed, and a prefix of the verdict was
-- written; or another fault was met, and only a prefix of the line that names a fault was written
-- Not said: which fault stands for which cause.
abbrev pub AttemptsStopped : ℕ → Option (List ℕ) → Option (List ℕ) → Option (List ℕ)
    → Option (List ℕ) → Type 0
AttemptsStopped words unread left held holds =
    HasJudgedAttemptsInPart words unread left held holds ⊎ NamedAlone held holds

-- the program judges attempts on this number of words; the status is 0 if they are opaque,
-- and 1 if not
abbrev pub JudgesAttempts : ℕ → ℕ → Option (List ℕ) → Option (List ℕ) → Option (List ℕ)
    → Option (List ℕ) → Type 0
JudgesAttempts words status unread left held holds =
    EndsWithVerdict status (HasJudgedAttempts words true unread left held holds)
    (HasJudgedAttempts words false unread left held holds)
    (AttemptsStopped words unread left held holds)

-- a fault ended a search for places of attempts: either the output failed, and a prefix of the
-- verdict was written; or another fault was met, and only a prefix of the line that names a fault
-- was written
-- Not said: which fault stands for which cause.
abbrev pub PlacingStopped : ℕ → Option (List ℕ) → Option (List ℕ) → Option (List ℕ)
    → Option (List ℕ) → Type 0
PlacingStopped words unread left held holds =
    HasPlacedInPart words unread left held holds ⊎ NamedAlone held holds

-- the program judges attempts on this number of words, of which only the committed writers stand in
-- their order; the status is 0 if the other attempts have places that show opacity, and 1 if not
abbrev pub PlacesAttempts : ℕ → ℕ → Option (List ℕ) → Option (List ℕ) → Option (List ℕ)
    → Option (List ℕ) → Type 0
PlacesAttempts words status unread left held holds =
    EndsWithVerdict status (HasPlaced words true unread left held holds)
    (HasPlaced words false unread left held holds)
    (PlacingStopped words unread left held holds)

-- the program judges attempts as the command line asks: it searches for places, or keeps the order
-- of the lines
abbrev pub JudgesOpacity : Bool → ℕ → ℕ → Option (List ℕ) → Option (List ℕ)
    → Option (List ℕ) → Option (List ℕ) → Type 0
JudgesOpacity true words status unread left held holds =
    PlacesAttempts words status unread left held holds
JudgesOpacity false words status unread left held holds =
    JudgesAttempts words status unread left held holds
