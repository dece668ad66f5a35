use Rattle.std.proofs.Common.{◌≡◌, ◌≤◌, take}
use Rattle.judge_opacity.specs.Logs.{blocked_by}
use Rattle.judge_opacity.proofs.placing.is_first.Given as goal

-- the count is that of the attempts before
abbrev pub invariant-left : goal.invariant-left
invariant-left l = record {
  counted : l.blocked ≡ blocked_by l.span (take l.place l.left);
  fits : l.blocked ≤ l.place;
}
