use Rattle.std.proofs.Common.{◌≡◌, true}
use Rattle.stm_attempt.specs.Attempt.{runs, origin}
use Rattle.test_stm.proofs.commits.three_hundred_writes_in_one_commit.Given as goal

abbrev pub invariant-loop-i : goal.invariant-loop-i
invariant-loop-i g l =
    (runs l.attempt ≡ true) × (origin l.attempt ≡ origin l.initial.attempt)
