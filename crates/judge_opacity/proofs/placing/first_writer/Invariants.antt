use Rattle.std.proofs.Common.{◌≡◌, ℕ, ◌<◌, false, get_or}
use Rattle.judge_opacity.specs.declared.logged.Logged.{Logged}
use Rattle.judge_opacity.proofs.placing.first_writer.Given as goal

-- no attempt before is a committed writer
abbrev pub invariant-left : goal.invariant-left
invariant-left l = (k : ℕ) (d : Logged) → k < l.place → (get_or l.left k d).writer ≡ false
