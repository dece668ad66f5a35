use Rattle.std.proofs.Common.{◌≡◌, ◌≤◌, not, take}
use Rattle.std.specs.List.{count_by}
use Rattle.judge_coverage.proofs.attempts.count_aborted.Given as goal

-- the count is that of the outcomes before
abbrev pub invariant-outcomes : goal.invariant-outcomes
invariant-outcomes l = record {
  counted : l.count ≡ count_by (λ outcome. not outcome.commits) (take l.place l.outcomes);
  fits : l.count ≤ l.place;
}
