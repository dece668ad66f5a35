use Rattle.std.proofs.Common.{ap, ◌∙◌}
use Rattle.stm_region.specs.Shown.{ClientShown, bounds, unplaced}
use Rattle.stm_core.specs.Guards.{stripe_of}
use Rattle.stm_attempt.proofs.Releasing.{may_release, release_logged, released_one, releasing_none}
use Rattle.stm_attempt.proofs.storing.release_all.Goals as goal

pub loop-lock-init : goal.loop-lock-init
loop-lock-init g c = (
  tt,
  tt,
  c.requires.own,
  releasing_none c.args.client.now.value _ _ (c.into_iter-lock-iterator.ensures.into_iter_gives ∙
      c.locks-lock-items.ensures) c.requires.held,
)

pub release-requires-clause-allowed : goal.release-requires-clause-allowed
release-requires-clause-allowed g c =
    may_release g.L.Law.lawful (unplaced c.args.region.now.renewal) (stripe_of c.args.region.now.stripes)
    (bounds c.args.region.now) c.args.writes.now c.args.client.now.value c.loop-lock.client.value _ _ _
    c.loop-lock.invariant.3 c.in-Some.ensures.steps c.requires.committed c.requires.stored

pub release-requires-clause-range : goal.release-requires-clause-range
release-requires-clause-range g c =
    let at = release_logged g.L.Law.lawful (unplaced c.args.region.now.renewal) (stripe_of c.args.region.now.stripes)
    (bounds c.args.region.now) c.args.writes.now c.args.client.now.value c.loop-lock.client.value _ _ _
    c.loop-lock.invariant.3 c.in-Some.ensures.steps in
    c.requires.placed.range at.0 _ at.1

pub loop-lock-preserved : goal.loop-lock-preserved
loop-lock-preserved g c = (
  tt,
  tt,
  ap (λ (x : ClientShown). x.table) c.release.ensures.client ∙ c.loop-lock.invariant.2,
  released_one g.L.Law.lawful (unplaced c.args.region.now.renewal) (stripe_of c.args.region.now.stripes)
      (bounds c.args.region.now) c.args.writes.now c.args.client.now.value c.loop-lock.client.value _ _ _
      c.loop-lock.invariant.3 c.in-Some.ensures.steps c.release.new.client.value
      (ap (λ (x : ClientShown). x.value) c.release.ensures.client),
)
