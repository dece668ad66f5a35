-- The report of a judge on its log, on standard error: the figures that tell what the verdict is
-- worth, and a warning.
use Rattle.std.specs.Prelude.{◌≡◌, ℕ, ◌==◌, ⊤, Bool, true, false, Option, Some, None, List, [], is_some}
use Rattle.std.specs.Prelude.{◌++◌, codes, if◌then◌else◌}
use Rattle.vac_lines.specs.Script.{as_line}
use Rattle.vac_lines.specs.Writing.{AppendsPrefix}
use Rattle.judge_coverage.specs.declared.coverage.Coverage.{Coverage}
use Rattle.judge_coverage.specs.declared.attempts.AttemptCoverage.{AttemptCoverage}
use Rattle.judge_coverage.specs.Text.{calls_coverage_text, calls_warning_text, pending_warning_text}
use Rattle.judge_coverage.specs.Text.{attempts_coverage_text, attempts_warning_text}
use Rattle.judge_options.specs.declared.asked.JudgeSettings.{JudgeSettings}
use Rattle.judge_options.specs.declared.asked.Request.{Request}
use Rattle.judge_options.specs.declared.asked.Request.TheVariants.{History, Order}
use Rattle.judge_options.specs.declared.asked.Request.TheVariants.{Attempts, Part}
use Rattle.judge_options.specs.declared.asked.Request.TheVariants.{UnknownLevel, Keys, Queue}
use Rattle.judge_options.specs.declared.asked.SearchSettings.{SearchSettings}
use Rattle.cli_judge.specs.Asking.{is_refused}
use Rattle.cli_judge.specs.Keys.{lacks_whole}

-- a report: the figures if they are asked for, and behind them the warnings if the status is that
-- of a positive verdict
abbrev pub report_of : Bool → ℕ → List ℕ → List ℕ → List ℕ
report_of stats status figures warning =
    (if stats then figures else []) ++ (if status == 0 then warning else [])

-- the line in the place of figures that could not be had: memory was refused, or the log has more
-- calls or attempts than are kept
abbrev pub unmeasured_line : List ℕ
unmeasured_line = as_line (codes "no figures: memory was refused, or there are over 4194304 lines")

-- the warnings about a log of calls; `has_workload` says whether the log is checked against a
-- workload
abbrev pub calls_warnings : Bool → Coverage → List ℕ
calls_warnings has_workload coverage =
    calls_warning_text coverage ++ (if has_workload then pending_warning_text coverage else [])

-- the report on a log of calls with these figures
abbrev pub calls_report : Bool → Bool → ℕ → Option Coverage → List ℕ
calls_report stats has_workload status None = if stats then unmeasured_line else []
calls_report stats has_workload status (Some coverage) =
    report_of stats status (calls_coverage_text coverage) (calls_warnings has_workload coverage)

-- the report on a log of attempts with these figures
abbrev pub attempts_report : Bool → ℕ → Option AttemptCoverage → List ℕ
attempts_report stats status None = if stats then unmeasured_line else []
attempts_report stats status (Some coverage) =
    report_of stats status (attempts_coverage_text coverage) (attempts_warning_text coverage)

-- a prefix of a report on a log of calls was written to standard error, and nothing else
-- Not said: that the figures are those of the log, because no contract of a judge says more of a
-- reader than which bytes it has left; that the report is written completely.
abbrev pub ReportsCalls : Bool → Bool → ℕ → Option (List ℕ) → Option (List ℕ) → Type 0
ReportsCalls stats has_workload status told tells = (coverage : Option Coverage)
    × AppendsPrefix told tells (calls_report stats has_workload status coverage)

-- as `ReportsCalls`, for a log of attempts
abbrev pub ReportsAttempts : Bool → ℕ → Option (List ℕ) → Option (List ℕ) → Type 0
ReportsAttempts stats status told tells = (coverage : Option AttemptCoverage)
    × AppendsPrefix told tells (attempts_report stats status coverage)

-- as `ReportsCalls`, unless the progress of a search is reported as well
-- Not said: what is written if the progress is reported.
abbrev pub ReportsBeside : Bool → Bool → Bool → ℕ → Option (List ℕ) → Option (List ℕ) → Type 0
ReportsBeside true stats has_workload status told tells = ⊤
ReportsBeside false stats has_workload status told tells =
    ReportsCalls stats has_workload status told tells

-- what a judge of a history reports, unless the command line is refused
-- Not said: the text about a refused command line.
abbrev pub ReportsUnless : Bool → JudgeSettings → ℕ → Option (List ℕ) → Option (List ℕ) → Type 0
ReportsUnless true how status told tells = ⊤
ReportsUnless false how status told tells =
    ReportsBeside how.search.progress how.search.stats (is_some how.tasks) status told tells

-- what a judge of a key-value store reports, unless the command line is refused
-- Not said: the text about a refused command line.
abbrev pub ReportsKeysUnless : Bool → SearchSettings → ℕ → Option (List ℕ) → Option (List ℕ)
    → Type 0
ReportsKeysUnless true search status told tells = ⊤
ReportsKeysUnless false search status told tells =
    ReportsBeside search.progress search.stats false status told tells

-- what the program reports on standard error if it does what a command line asks for
-- Not said: the reports of `part`; the text about a word that names no level.
abbrev pub Reports : Request → ℕ → Option (List ℕ) → Option (List ℕ) → Type 0
Reports (History how) status told tells = ReportsUnless (is_refused how) how status told tells
Reports (Order blocks search) status told tells =
    ReportsBeside search.progress search.stats false status told tells
Reports UnknownLevel status told tells = ⊤
Reports (Attempts how) status told tells = ReportsAttempts how.stats status told tells
Reports (Part words) status told tells = ⊤
Reports (Keys how) status told tells =
    ReportsKeysUnless (lacks_whole how) how.search status told tells
Reports (Queue search) status told tells =
    ReportsBeside search.progress search.stats false status told tells
