use Rattle.std.proofs.Common.{◌≡◌, true}
use Rattle.stm_attempt.specs.Attempt.{runs, origin}
use Rattle.test_stm.proofs.logs.write_and_read.Given as goal

abbrev pub invariant-loop-addr : goal.invariant-loop-addr
invariant-loop-addr g l =
    (runs l.attempt ≡ true) × (origin l.attempt ≡ origin l.initial.attempt)
