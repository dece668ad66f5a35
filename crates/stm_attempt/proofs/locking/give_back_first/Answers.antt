use Rattle.std.proofs.Common.{arith, refl, sym, ap, subst, ◌∙◌, ◌≤◌, ℕ, List, [], length, take}
use Rattle.stm_region.specs.Shown.{ClientShown, bounds, unplaced}
use Rattle.stm_core.specs.Guards.{stripe_of}
use Rattle.stm_attempt.proofs.Returning.{may_return, return_logged, returned_one}
use Rattle.stm_attempt.proofs.locking.give_back_first.Goals as goal

pub loop-lock-init : goal.loop-lock-init
loop-lock-init g c =
    let all = c.into_iter-lock-iterator.ensures.into_iter_gives ∙ c.locks-lock-items.ensures in (
      tt,
      tt,
      c.requires.own,
      record {
        gone = [];
        order = all;
        same = refl;
        able = c.requires.able;
        held = c.requires.held ∙ ap (take c.args.count) (sym all);
        few = subst (λ (xs : List ℕ). c.args.count ≤ length xs) (sym all) c.requires.few;
        gave_back = λ some. absurd (omega (arith, some));
        steps = refl;
      },
    )

pub give_back-requires-clause-allowed : goal.give_back-requires-clause-allowed
give_back-requires-clause-allowed g c =
    may_return g.L.Law.lawful (unplaced c.args.region.now.renewal) (stripe_of c.args.region.now.stripes)
    (bounds c.args.region.now) c.args.writes.now c.args.client.now.value c.loop-lock.client.value _ _ _ _ _
    c.loop-lock.invariant.3 c.in-Some.ensures.steps c.if-left-eq0.false

pub give_back-requires-clause-range : goal.give_back-requires-clause-range
give_back-requires-clause-range g c =
    let at = return_logged g.L.Law.lawful (unplaced c.args.region.now.renewal) (stripe_of c.args.region.now.stripes)
    (bounds c.args.region.now) c.args.writes.now c.args.client.now.value c.loop-lock.client.value _ _ _ _ _
    c.loop-lock.invariant.3 c.in-Some.ensures.steps c.if-left-eq0.false in
    c.requires.placed.range at.0 _ at.1

pub loop-lock-preserved : goal.loop-lock-preserved
loop-lock-preserved g c = (
  tt,
  tt,
  ap (λ (x : ClientShown). x.table) c.give_back.ensures.client ∙ c.loop-lock.invariant.2,
  returned_one g.L.Law.lawful (unplaced c.args.region.now.renewal) (stripe_of c.args.region.now.stripes)
      (bounds c.args.region.now) c.args.writes.now c.args.client.now.value c.loop-lock.client.value _ _ _ _ _
      c.loop-lock.invariant.3 c.in-Some.ensures.steps c.if-left-eq0.false c.give_back.new.client.value
      (ap (λ (x : ClientShown). x.value) c.give_back.ensures.client),
)
