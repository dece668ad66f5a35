use Rattle.std.proofs.Common.{◌≡◌, ◌≤◌, ◌+◌, take}
use Rattle.std.specs.List.{count_by}
use Rattle.judge_coverage.specs.Coverage.{began_beside, greatest, met_by}
use Rattle.judge_coverage.proofs.meetings.Meetings.count.Given as goal

-- the numbers are those of the calls before
abbrev pub invariant-calls : goal.invariant-calls
invariant-calls l = record {
  counted : l.overlapped ≡ count_by (began_beside l.self.calls.now) (take l.place l.self.calls.now);
  fits : l.overlapped ≤ l.place;
  most : l.most_at_once ≡ greatest (λ call. met_by l.self.calls.now call + 1) (take l.place l.self.calls.now);
}
