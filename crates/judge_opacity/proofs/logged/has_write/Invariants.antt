use Rattle.std.proofs.Common.{◌≡◌, ℕ, ◌<◌, false, get_or}
use Rattle.judge_opacity.specs.declared.attempt.Access.{Access}
use Rattle.judge_opacity.specs.Placing.{is_write}
use Rattle.judge_opacity.proofs.logged.has_write.Given as goal

-- no access before is a write
abbrev pub invariant-accesses : goal.invariant-accesses
invariant-accesses l = (k : ℕ) (d : Access) → k < l.place → is_write (get_or l.accesses k d) ≡ false
