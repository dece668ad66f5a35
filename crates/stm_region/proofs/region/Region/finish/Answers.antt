use Rattle.std.proofs.Common.{rules, sym, ap, subst}
use Rattle.stm_core.specs.Event.{finish}
use Rattle.stm_core.specs.Invariant.{Sorted}
use Rattle.stm_core.proofs.Whole.{after_sorted}
use Rattle.stm_region.specs.Shown.{unplaced}
use Rattle.stm_core.specs.Guards.{stripe_of}
use Rattle.stm_region.specs.Findings.{DecidesAt}
use Rattle.stm_region.proofs.region.Region.finish.Goals as goal

pub invariant_of-client : goal.invariant_of-client
invariant_of-client g c =
    let r = c.args.self.now in
    let v = c.client.inside.seat.me.0 in (
      search rules,
      search rules,
      search rules,
      search rules,
      subst Sorted (sym (ap (λ m. m.0.records) c.finish_as.ensures.acted.me))
          (after_sorted (unplaced r.renewal) (stripe_of r.stripes)
          (finish (g.T.Tag.numbers c.args.tag.now)) c.finish_as.result v c.client.invariant.4),
    )

pub returns-clause-after : goal.returns-clause-after
returns-clause-after g c = (
  c.finish_as.result,
  search rules,
  subst (λ v. DecidesAt g.L.Law.fits g.L.Law.lawful c.args.self.now
      (finish (g.T.Tag.numbers c.args.tag.now)) c.finish_as.result v c.finish_as.new.seat.me.0)
      (ap (λ w. w.value) c.client.view_is) c.finish_as.ensures.acted.told,
)
