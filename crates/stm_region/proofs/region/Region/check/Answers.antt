use Rattle.std.proofs.Common.{ap, subst}
use Rattle.stm_core.specs.Event.{check}
use Rattle.stm_region.specs.Findings.{IsOfOneVersionAt}
use Rattle.stm_region.proofs.region.Region.check.Goals as goal

pub returns-clause-after : goal.returns-clause-after
returns-clause-after g c =
    subst (λ v. IsOfOneVersionAt g.L.Law.fits g.L.Law.lawful c.args.self.now
    (check c.args.addr.0) c.load_as.result v c.load_as.new.seat.me.0)
    (ap (λ w. w.value) c.client.view_is) c.load_as.ensures.acted.told.3
