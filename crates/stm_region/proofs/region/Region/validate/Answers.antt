use Rattle.std.proofs.Common.{rules, ◌%◌, ◌≡◌, sym, ap, subst, arith}
use Rattle.stm_core.specs.Event.{validate}
use Rattle.stm_core.specs.Invariant.{Sorted}
use Rattle.stm_core.proofs.Conditions.{can_act}
use Rattle.stm_core.proofs.Whole.{after_sorted}
use Rattle.stm_region.specs.Shown.{RegionShown, bounds, unplaced}
use Rattle.stm_core.specs.Guards.{stripe_of}
use Rattle.stm_region.specs.Findings.{DecidesAt}
use Rattle.stm_region.proofs.region.Region.validate.Goals as goal

pub prove-unreachable-requires : goal.prove-unreachable-requires
prove-unreachable-requires g c =
    let r = c.args.self.now in
    let next = (can_act (stripe_of r.stripes) g.L.Law.lawful (bounds r) c.args.client.now.value.attempt
    (validate c.args.lock) c.requires.allowed.1).2 in
    let some = c.self.invariant.0.some in
    let same : c.self.inside.stripes ≡ r.stripes = ap (λ (x : RegionShown). x.stripes) c.self.view_is in
    let past = c.if-prove.true in
    let is : next.0 % r.stripes ≡ c.args.lock = next.3 in omega arith

pub invariant_of-client : goal.invariant_of-client
invariant_of-client g c =
    let r = c.args.self.now in
    let v = c.client.inside.seat.me.0 in (
      search rules,
      search rules,
      search rules,
      search rules,
      subst Sorted (sym (ap (λ m. m.0.records) c.load_as.ensures.acted.me))
          (after_sorted (unplaced r.renewal) (stripe_of r.stripes) (validate c.args.lock) _ v c.client.invariant.4),
    )

pub returns-clause-after : goal.returns-clause-after
returns-clause-after g c d =
    subst (λ v. DecidesAt g.L.Law.fits g.L.Law.lawful c.args.self.now
    (validate c.args.lock) c.load_as.result v c.load_as.new.seat.me.0) (ap (λ w. w.value) c.client.view_is)
    (c.load_as.ensures.acted.told.1 d)
