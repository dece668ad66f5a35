-- The lines of a load on standard error: its progress, its statistics, and its two lines.
use Rattle.std.specs.Prelude.{ℕ, ◌-◌, ◌*◌, ◌^◌, ◌||◌, ◌++◌, min, List, [], codes}
use Rattle.std.specs.Prelude.{Bool, Option, if◌then◌else◌}
use Rattle.load_tasks.specs.declared.settings.Settings.{Settings}
use Rattle.vac_lines.specs.Writing.{AppendsPrefix}
use Rattle.vac_lines.specs.Script.{as_line}
use Rattle.vac_model.specs.ReplyText.{field_text}
use Rattle.load_run.specs.declared.load.LoadReport.{LoadReport}
use Rattle.load_run.specs.declared.summary.LoadSummary.{LoadSummary}
use Rattle.load_run.specs.Summary.{load_text, stats_text}
use Rattle.cli_options.specs.declared.asked.LoadOutput.{LoadOutput}

-- a line of progress: the number of completed tasks, and the number of all tasks
abbrev pub progress_line : ℕ → ℕ → List ℕ
progress_line answered all =
    as_line (field_text (codes "answered ") answered ++ field_text (codes " of ") all)

-- the number of tasks of all clients in all rounds, or the largest number of 64 bits if it is less
abbrev pub task_count : Settings → ℕ
task_count s = min (s.rounds * s.tasks * s.clients) (2 ^ 64 - 1)

-- prefixes of lines of progress were written, one after the other, and nothing else; each line
-- names this number of all tasks
-- Not said: the numbers of completed tasks; how many lines there are, and when they are written.
pub data WritesProgress (all : ℕ) : Option (List ℕ) → Option (List ℕ) → Type 0 where
  no_line : {told : Option (List ℕ)} → WritesProgress all told told
  one_more : {told middle tells : Option (List ℕ)} (answered : ℕ) →
      WritesProgress all told middle →
      AppendsPrefix middle tells (progress_line answered all) → WritesProgress all told tells

-- the statistics of a load as a line, if they are asked for
abbrev pub statistics_line : Bool → LoadSummary → List ℕ
statistics_line asked n = if asked then as_line (stats_text n) else []

-- the two lines of a load, if they are asked for
abbrev pub load_lines : Bool → LoadReport → List ℕ
load_lines asked load = if asked then load_text load else []

-- the lines about the end of a load on standard error: its statistics if they are asked for, and
-- its two lines if its history or its attempts go to the output
abbrev pub summary_text : LoadOutput → LoadSummary → List ℕ
summary_text how n =
    statistics_line how.stats n ++ load_lines (how.history || how.attempts) n.report
