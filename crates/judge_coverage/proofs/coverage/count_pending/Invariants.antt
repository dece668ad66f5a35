use Rattle.std.proofs.Common.{◌≡◌, ◌≤◌, take}
use Rattle.judge_coverage.specs.Coverage.{pending_in}
use Rattle.judge_coverage.proofs.coverage.count_pending.Given as goal

-- the count is that of the calls before
abbrev pub invariant-calls : goal.invariant-calls
invariant-calls l = record {
  counted : l.count ≡ pending_in (take l.place l.calls);
  fits : l.count ≤ l.place;
}
