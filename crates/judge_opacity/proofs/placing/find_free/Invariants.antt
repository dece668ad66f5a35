use Rattle.std.proofs.Common.{◌≡◌, ℕ, ◌<◌, false, List, get_or}
use Rattle.judge_opacity.specs.declared.logged.Logged.{Logged}
use Rattle.judge_opacity.specs.Attempt.{Attempt}
use Rattle.judge_opacity.specs.Judging.{FollowsAttempts}
use Rattle.judge_opacity.specs.Logs.{IsSameJudge, is_free}
use Rattle.judge_opacity.proofs.placing.find_free.Given as goal

-- no attempt before is free
abbrev pub invariant-left : goal.invariant-left
invariant-left l = record {
  same : IsSameJudge l.fn.judge l.judge;
  none : (words : ℕ) (earlier : List Attempt) → FollowsAttempts words l.fn.judge earlier → (k : ℕ) (d : Logged) →
      k < l.place → is_free earlier l.left (get_or l.left k d) ≡ false;
}
