use Rattle.std.proofs.Common.{rules, sym, ◌∙◌, ap, subst}
use Rattle.stm_core.specs.Event.{tick}
use Rattle.stm_core.specs.Invariant.{Sorted}
use Rattle.stm_core.proofs.Whole.{after_sorted}
use Rattle.stm_region.specs.Shown.{unplaced}
use Rattle.stm_core.specs.Guards.{stripe_of}
use Rattle.stm_region.specs.Findings.{DecidesAt}
use Rattle.stm_region.proofs.region.Region.tick.Goals as goal

pub invariant_of-client : goal.invariant_of-client
invariant_of-client g c =
    let r = c.args.self.now in
    let v = c.client.inside.seat.me.0 in (
      search rules,
      search rules,
      search rules,
      search rules,
      subst Sorted (sym (ap (λ m. m.0.records) c.tick_as-found.ensures.acted.me))
          (after_sorted (unplaced r.renewal) (stripe_of r.stripes)
          (tick c.args.from (g.T.Tag.numbers c.args.tag.now) (g.W.Writes.pairs c.args.writes.now))
          c.tick_as-found.result v
          c.client.invariant.4),
    )

pub returns-then-found-get-clause-after : goal.returns-then-found-get-clause-after
returns-then-found-get-clause-after g c d =
    let e = tick c.args.from (g.T.Tag.numbers c.args.tag.now) (g.W.Writes.pairs c.args.writes.now) in
    subst (λ n. DecidesAt g.L.Law.fits g.L.Law.lawful c.args.self.now e n c.args.client.now.value
    c.tick_as-found.new.seat.me.0) (c.if-found-get.true ∙ c.get.ensures.number)
    (subst (λ v. DecidesAt g.L.Law.fits g.L.Law.lawful c.args.self.now e c.tick_as-found.result v
    c.tick_as-found.new.seat.me.0) (ap (λ w. w.value) c.client.view_is) (c.tick_as-found.ensures.acted.told.2 d))
