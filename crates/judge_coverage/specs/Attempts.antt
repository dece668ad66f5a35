-- The figures of a log of attempts: those of the intervals, and the numbers of attempts that were
-- aborted and that wrote nothing.
use Rattle.std.specs.Prelude.{ℕ, not, List}
use Rattle.std.specs.List.{count_by}
use Rattle.judge_object.specs.declared.span.Span.{Span}
use Rattle.judge_coverage.specs.declared.attempts.Outcome.{Outcome}
use Rattle.judge_coverage.specs.declared.attempts.AttemptCoverage.{AttemptCoverage}
use Rattle.judge_coverage.specs.Coverage.{coverage_of}

-- the number of attempts that were aborted
abbrev pub aborted_in : List Outcome → ℕ
aborted_in outcomes = count_by (λ outcome. not outcome.commits) outcomes

-- the number of attempts that wrote no word
abbrev pub read_only_in : List Outcome → ℕ
read_only_in outcomes = count_by (λ outcome. not outcome.writes) outcomes

-- the figures of attempts with these intervals and outcomes
abbrev pub attempts_coverage_of : List Span → List Outcome → AttemptCoverage
attempts_coverage_of intervals outcomes = record {
  intervals = coverage_of intervals;
  aborted = aborted_in outcomes;
  read_only = read_only_in outcomes;
}
