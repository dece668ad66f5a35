-- The texts about a load that ran to its end: its two lines and its statistics.
use Rattle.std.specs.Prelude.{ℕ, ◌*◌, ◌/◌, ◌%◌, ◌==◌, ◌++◌, List, codes, decimal, if◌then◌else◌}
use Rattle.vac_model.specs.ReplyText.{field_text, report_text}
use Rattle.load_run.specs.declared.outcomes.Outcomes.{Outcomes}
use Rattle.load_run.specs.declared.load.LoadReport.{LoadReport}
use Rattle.load_run.specs.declared.statistics.AttemptStatistics.{AttemptStatistics}
use Rattle.load_run.specs.declared.summary.LoadSummary.{LoadSummary}
use Rattle.load_run.specs.declared.summary.TheConstants.{SECOND, MICROSECOND}

-- the counts of a load's tasks by their result
abbrev pub counts_text : Outcomes → List ℕ
counts_text t =
    field_text (codes "answered ") t.answered ++ field_text (codes " busy ") t.busy
    ++ field_text (codes " memory ") t.memory ++ field_text (codes " spent ") t.spent

-- the two lines of a load: the counts of its tasks, and the report
abbrev pub load_text : LoadReport → List ℕ
load_text load =
    (counts_text load.outcomes ++ codes "\n") ++ (report_text load.report ++ codes "\n")

-- the last three digits of a number
abbrev pub three_digits : ℕ → List ℕ
three_digits n = decimal (n / 100 % 10) ++ decimal (n / 10 % 10) ++ decimal (n % 10)

-- a count per unit of the whole, rounded down; 0 if the whole is 0
abbrev pub quotient_or_zero : ℕ → ℕ → ℕ
quotient_or_zero count whole = if whole == 0 then 0 else count / whole

-- microseconds as seconds with six digits behind the point
abbrev pub seconds_text : ℕ → List ℕ
seconds_text micros =
    field_text (codes "seconds ") (micros / 1000000) ++ codes "."
    ++ three_digits (micros / 1000) ++ three_digits micros

-- the number of attempts, and the numbers of conflicts over a lock word that was held or was newer
-- than the read version
abbrev pub attempts_text : AttemptStatistics → List ℕ
attempts_text e =
    field_text (codes " attempts ") e.attempts ++ field_text (codes " held ") e.held
    ++ field_text (codes " newer ") e.newer

-- the numbers of conflicts over a lock word that changed during a read, over an exchange that takes
-- a lock, and over one that ticks the clock
abbrev pub lost_text : AttemptStatistics → List ℕ
lost_text e =
    field_text (codes " moved ") e.moved ++ field_text (codes " lost-lock ") e.lost_lock
    ++ field_text (codes " lost-tick ") e.lost_tick

-- the numbers of conflicts over the locks of roots, free-list heads and tree nodes
abbrev pub structure_text : AttemptStatistics → List ℕ
structure_text e =
    field_text (codes " roots ") e.roots ++ field_text (codes " heads ") e.heads
    ++ field_text (codes " nodes ") e.nodes

-- the numbers of conflicts over the locks of usage counters and stock counters
abbrev pub counters_text : AttemptStatistics → List ℕ
counters_text e = field_text (codes " uses ") e.uses ++ field_text (codes " stocks ") e.stocks

-- the text of attempt statistics
abbrev pub statistics_text : AttemptStatistics → List ℕ
statistics_text e =
    attempts_text e ++ lost_text e ++ structure_text e ++ counters_text e

-- the number of completed tasks in a second
abbrev pub throughput_text : LoadSummary → List ℕ
throughput_text n =
    field_text (codes " tasks-per-second ")
    (quotient_or_zero (n.report.outcomes.answered * SECOND) n.nanos)

-- thousandths of an attempt for each completed task, as a number with three digits behind the point
abbrev pub attempts_per_task_text : ℕ → List ℕ
attempts_per_task_text thousandths =
    field_text (codes " attempts-per-task ") (thousandths / 1000) ++ codes "."
    ++ three_digits (thousandths % 1000)

-- the number of thousandths of an attempt for each completed task
abbrev pub thousandths_of : LoadSummary → ℕ
thousandths_of n = quotient_or_zero (n.statistics.attempts * 1000) n.report.outcomes.answered

-- how fast a load was: the seconds that its clients took, and the completed tasks in a second
abbrev pub timing_text : LoadSummary → List ℕ
timing_text n = seconds_text (n.nanos / MICROSECOND) ++ throughput_text n

-- the attempts of a load: the attempt statistics, and the attempts for each completed task
abbrev pub attempt_figures_text : LoadSummary → List ℕ
attempt_figures_text n = statistics_text n.statistics ++ attempts_per_task_text (thousandths_of n)

-- the statistics of a load
abbrev pub stats_text : LoadSummary → List ℕ
stats_text n = timing_text n ++ attempt_figures_text n
