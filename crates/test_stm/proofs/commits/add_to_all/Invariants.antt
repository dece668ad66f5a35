use Rattle.std.proofs.Common.{◌≡◌, true}
use Rattle.stm_attempt.specs.Attempt.{runs, origin}
use Rattle.test_stm.proofs.commits.add_to_all.Given as goal

abbrev pub invariant-loop-i : goal.invariant-loop-i
invariant-loop-i l =
    (runs l.attempt ≡ true) × (origin l.attempt ≡ origin l.initial.attempt)
