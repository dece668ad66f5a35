use Rattle.std.proofs.Common.{rules, sym, subst}
use Rattle.stm_core.specs.Event.{lock}
use Rattle.stm_core.specs.Guards.{May, stripe_of}
use Rattle.stm_region.specs.Shown.{ClientShown, bounds}
use Rattle.stm_region.proofs.region.Region.exchange.Goals as goal

pub exchange_as-found-requires-clause-ready : goal.exchange_as-found-requires-clause-ready
exchange_as-found-requires-clause-ready g c =
    let r = c.args.self.now in
    record {
      range = search rules;
      word_is = search rules;
      allowed = subst (λ (w : ClientShown). May g.L.Law.lawful (stripe_of r.stripes) (bounds r)
          (lock c.args.lock) w.value) (sym c.client.view_is) c.requires.allowed;
    }
