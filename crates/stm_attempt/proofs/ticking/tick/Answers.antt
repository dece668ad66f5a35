use Rattle.std.proofs.Common.{rules, refl, ap, sym, subst, ◌∙◌, ℕ, inr, arith}
use Rattle.stm_logs.specs.Log.{log_pairs}
use Rattle.stm_region.specs.Shown.{ClientShown}
use Rattle.stm_attempt.specs.CommitParts.{HasTicked}
use Rattle.stm_attempt.proofs.Ticks.{has_won, has_lost, lost_on, spent_shown, still_open, not_won, ticking_none}
use Rattle.stm_attempt.proofs.ticking.tick.Goals as goal

pub returns-in-Ok-clause-won : goal.returns-in-Ok-clause-won
returns-in-Ok-clause-won g c =
    subst (λ (n : ℕ). HasTicked c.args.region.now (g.T.Tag.numbers c.args.tag.now)
    (log_pairs c.args.writes.now) c.args.client.now.value c.tick.new.client.value n) (sym c.in-Ok.ensures.version.0)
    (has_won c.args.region.now _ _ _ _ _ _ c.loop.invariant.2 c.requires.ready.reading c.tick.new.client.value
    (ap (λ (x : ClientShown). x.value) c.in-Ok.ensures.client) c.tick.ensures.later
    (λ lone. (c.in-Ok.ensures.lone (still_open c.args.client.now.value c.loop.client.value c.loop.counter c.loop.from
    c.loop.invariant.2 c.requires.ready.reading lone)).1))

pub loop-init : goal.loop-init
loop-init g c = (
  refl,
  c.requires.ready.range,
  ticking_none c.args.client.now.value c.args.rv c.requires.ready.unticked
      c.requires.ready.from,
  λ _. (refl, refl),
)

pub returns-in-Ok-clause-own : goal.returns-in-Ok-clause-own
returns-in-Ok-clause-own g c = ap (λ (s : ClientShown). s.table) c.in-Ok.ensures.client ∙ c.loop.invariant.0

pub returns-in-Ok-clause-decides : goal.returns-in-Ok-clause-decides
returns-in-Ok-clause-decides g c = c.tick.ensures.decides

pub returns-then-eq-clause-own : goal.returns-then-eq-clause-own
returns-then-eq-clause-own g c = c.loop.invariant.0

pub returns-then-eq-clause-failed : goal.returns-then-eq-clause-failed
returns-then-eq-clause-failed g c = record {
  failed = has_lost c.args.client.now.value c.loop.client.value _ _ c.loop.invariant.2 c.requires.ready.out
      c.requires.ready.reading;
  shown = search (rules, spent_shown);
  counted = omega (arith, c.loop.invariant.2.steps, c.loop.invariant.2.ticks);
}

pub returns-clause-own : goal.returns-clause-own
returns-clause-own g c = c.loop.invariant.0

pub returns-clause-failed : goal.returns-clause-failed
returns-clause-failed g c = record {
  failed = has_lost c.args.client.now.value c.loop.client.value _ _ c.loop.invariant.2 c.requires.ready.out
      c.requires.ready.reading;
  shown =
      let lost = c.loop.invariant.2.lost (omega (arith, c.loop-test.false)) in
      rw c.get.ensures.number (inr (inr (
        lost.0,
        lost.1,
        lost.2,
        omega (arith, c.loop-test.false, c.loop.auto.counter-end, c.loop.invariant.2.ticks),
      )));
  counted = tt;
}

pub loop-preserved : goal.loop-preserved
loop-preserved g c =
    let lost = c.in-Err.ensures.client in (
      ap (λ (s : ClientShown). s.table) lost.1 ∙ c.loop.invariant.0,
      c.in-Err.ensures.version,
      lost_on c.args.region.now (g.T.Tag.numbers c.args.tag.now)
          (log_pairs c.args.writes.now) c.args.client.now.value c.loop.client.value c.tick.new.client.value
          c.loop.counter c.loop.from c.in-Err.found c.loop.invariant.2 lost.0
          (ap (λ (s : ClientShown). s.value) lost.1),
      λ lone. not_won (c.in-Err.ensures.lone (still_open c.args.client.now.value c.loop.client.value c.loop.counter
          c.loop.from c.loop.invariant.2 c.requires.ready.reading lone)).0,
    )
