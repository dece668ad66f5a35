use Rattle.std.proofs.Common.{◌∙◌, ℕ, arith}
use Rattle.stm_region.specs.Shown.{bounds}
use Rattle.stm_core.specs.Guards.{stripe_of}
use Rattle.stm_attempt.specs.Conflicts.{IsReadLock, IsValidateConflict}
use Rattle.stm_attempt.specs.CommitParts.{HasFailedValidating}
use Rattle.stm_attempt.proofs.Parts.{handed_on}
use Rattle.stm_attempt.proofs.ValidateAll.{next_less, address_at, read_inside, may_validate_next, validated_on}
use Rattle.stm_attempt.proofs.ValidateAll.{validated_read, failed_lock}
use Rattle.stm_attempt.proofs.validating.validate_reads.Goals as goal

pub lock_of-lock-requires : goal.lock_of-lock-requires
lock_of-lock-requires g c =
    let less = next_less c.args.logs.now.reads c.args.client.now.value.attempt.reads c.loop-i.i c.requires.logged
    (omega arith) in
    let address = address_at c.args.logs.now.reads c.args.client.now.value.attempt.reads c.loop-i.i c.get-addr.result.0
    c.requires.logged c.get-addr.ensures in
    omega (
      arith,
      address,
      read_inside c.args.region.now.size c.args.client.now.value.attempt.reads c.loop-i.i
          c.requires.ready.inside less,
    )

pub validate_lock-requires-clause-allowed : goal.validate_lock-requires-clause-allowed
validate_lock-requires-clause-allowed g c =
    let less = next_less c.args.logs.now.reads c.args.client.now.value.attempt.reads c.loop-i.i c.requires.logged
    (omega arith) in
    let address = address_at c.args.logs.now.reads c.args.client.now.value.attempt.reads c.loop-i.i c.get-addr.result.0
    c.requires.logged c.get-addr.ensures in
    may_validate_next c.args.region.now c.args.client.now.value c.loop-i.client.value c.loop-i.i c.loop-i.invariant.1
    less g.L.Law.lawful (stripe_of c.args.region.now.stripes)
    (bounds c.args.region.now) c.requires.ready.out c.requires.ready.versioned c.get-addr.result.0
    c.lock_of-lock.result address c.lock_of-lock.ensures.value

pub loop-i-preserved : goal.loop-i-preserved
loop-i-preserved g c =
    let less = next_less c.args.logs.now.reads c.args.client.now.value.attempt.reads c.loop-i.i c.requires.logged
    (omega arith) in (
      c.in_ok-validate_lock.ensures.own ∙ c.loop-i.invariant.0,
      validated_on c.args.region.now c.args.client.now.value c.loop-i.client.value c.loop-i.i c.loop-i.invariant.1 less
          c.lock_of-lock.result c.validate_lock.new.client.value c.in_ok-validate_lock.ensures.passed
          c.requires.ready.unplaced,
      c.in_ok-validate_lock.ensures.decides,
    )

pub returns-in_err-validate_lock-clause-shown : goal.returns-in_err-validate_lock-clause-shown
returns-in_err-validate_lock-clause-shown g c =
    let less = next_less c.args.logs.now.reads c.args.client.now.value.attempt.reads c.loop-i.i c.requires.logged
    (omega arith) in
    let address = address_at c.args.logs.now.reads c.args.client.now.value.attempt.reads c.loop-i.i c.get-addr.result.0
    c.requires.logged c.get-addr.ensures in
    handed_on c.from_residual.result c.in_err-validate_lock.field-0.0
    (λ conflict. (lock : ℕ) × IsReadLock (stripe_of c.args.region.now.stripes)
    c.validate_lock.new.client.value.attempt.reads lock ×
    IsValidateConflict lock conflict c.validate_lock.new.client.value) c.from_residual.ensures.1 (
      c.lock_of-lock.result,
      validated_read c.args.region.now c.args.client.now.value c.loop-i.client.value c.loop-i.i
          c.loop-i.invariant.1 less c.get-addr.result.0 c.lock_of-lock.result address c.lock_of-lock.ensures.value
          c.validate_lock.new.client.value c.in_err-validate_lock.ensures.failed,
      c.in_err-validate_lock.ensures.shown,
    )

pub returns-in_err-validate_lock-clause-failed : goal.returns-in_err-validate_lock-clause-failed
returns-in_err-validate_lock-clause-failed g c =
    let less = next_less c.args.logs.now.reads c.args.client.now.value.attempt.reads c.loop-i.i c.requires.logged
    (omega arith) in
    handed_on c.from_residual.result c.in_err-validate_lock.field-0.0
    (λ conflict. HasFailedValidating c.args.client.now.value c.validate_lock.new.client.value)
    c.from_residual.ensures.1
    (failed_lock c.args.region.now c.args.client.now.value c.loop-i.client.value c.loop-i.i c.loop-i.invariant.1 less _
    c.validate_lock.new.client.value c.in_err-validate_lock.ensures.failed c.requires.ready.out)
