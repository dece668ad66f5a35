use Rattle.std.proofs.Common.{inl, sym, ◌∙◌, arith}
use Rattle.stm_attempt.specs.CommitParts.{HasFailedLocking}
use Rattle.stm_core.specs.Guards.{stripe_of}
use Rattle.stm_attempt.specs.Conflicts.{IsCommitConflict}
use Rattle.stm_attempt.proofs.Locks.{next_above, next_logged, room}
use Rattle.stm_attempt.proofs.Parts.{handed_on, nothing_answered, climbing_none, climbing_on, failed_climbing}
use Rattle.stm_attempt.proofs.locking.lock_all.Goals as goal

pub lock_one-requires-clause-range : goal.lock_one-requires-clause-range
lock_one-requires-clause-range g c =
    let at = next_logged c.args.writes.now c.loop-lock.client.value.attempt.held _ _ _ c.loop-lock.invariant.3.held
    c.in-Some.ensures.steps in
    c.requires.placed.range at.0 _ at.1

pub lock_one-requires-clause-above : goal.lock_one-requires-clause-above
lock_one-requires-clause-above g c = next_above c.args.writes.now c.loop-lock.client.value.attempt.held _ _ _
    c.loop-lock.invariant.3.held c.in-Some.ensures.steps

pub prove-unreachable-requires : goal.prove-unreachable-requires
prove-unreachable-requires g c = omega (
  arith,
  room c.args.writes.now c.loop-lock.client.value.attempt.held _ _ _
      c.loop-lock.invariant.3.held c.in-Some.ensures.steps,
  c.few_locks.ensures,
  c.len-most.ensures,
  c.loop-lock.invariant.3.count,
)

pub returns-in_err-lock_one-clause-shown : goal.returns-in_err-lock_one-clause-shown
returns-in_err-lock_one-clause-shown g c =
    handed_on c.from_residual.result c.in_err-lock_one.field-0.0
    (λ conflict. IsCommitConflict (stripe_of c.args.region.now.stripes) c.args.writes.now conflict
    c.lock_one.new.client.value) c.from_residual.ensures.1
    (inl (
      c.in-Some.lock,
      next_logged c.args.writes.now c.loop-lock.client.value.attempt.held _ _ _
          c.loop-lock.invariant.3.held c.in-Some.ensures.steps,
      c.in_err-lock_one.ensures.shown,
    ))

pub loop-lock-init : goal.loop-lock-init
loop-lock-init g c = (
  tt,
  tt,
  c.requires.own,
  climbing_none c.args.client.now.value _ _ _ c.requires.none.0 c.requires.none.1
      (c.into_iter-lock-iterator.ensures.into_iter_gives ∙ c.locks-lock-items.ensures),
)

pub loop-lock-preserved : goal.loop-lock-preserved
loop-lock-preserved g c = (
  tt,
  tt,
  c.lock_one.ensures.own ∙ c.loop-lock.invariant.2,
  climbing_on c.args.client.now.value c.loop-lock.client.value c.lock_one.new.client.value c.loop-lock.taken _ _
      c.loop-lock.invariant.3 c.in-Some.lock _ c.in-Some.ensures.steps c.in_ok-lock_one.ensures.taken,
)

pub returns-in_err-lock_one-clause-own : goal.returns-in_err-lock_one-clause-own
returns-in_err-lock_one-clause-own g c = c.lock_one.ensures.own ∙ c.loop-lock.invariant.2 ∙ sym c.requires.own

pub returns-in_err-lock_one-clause-all : goal.returns-in_err-lock_one-clause-all
returns-in_err-lock_one-clause-all g c = nothing_answered c.from_residual.result c.in_err-lock_one.field-0.0 _
    c.from_residual.ensures.1

pub returns-in_err-lock_one-clause-failed : goal.returns-in_err-lock_one-clause-failed
returns-in_err-lock_one-clause-failed g c =
    handed_on c.from_residual.result c.in_err-lock_one.field-0.0
    (λ _. HasFailedLocking c.args.client.now.value c.lock_one.new.client.value c.loop-lock.taken)
    c.from_residual.ensures.1
    (failed_climbing c.args.client.now.value c.loop-lock.client.value c.lock_one.new.client.value c.loop-lock.taken _ _
    c.loop-lock.invariant.3 c.in_err-lock_one.ensures.failed c.in_err-lock_one.ensures.steps)

pub returns-clause-own : goal.returns-clause-own
returns-clause-own g c = c.loop-lock.invariant.2 ∙ sym c.requires.own
