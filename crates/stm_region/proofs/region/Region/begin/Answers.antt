use Rattle.std.proofs.Common.{List, sym, ap, subst}
use Rattle.tx_memory.specs.Image.{In}
use Rattle.stm_core.specs.Client.{Record}
use Rattle.stm_region.specs.Findings.{IsEarlier}
use Rattle.stm_region.proofs.region.Region.begin.Goals as goal

pub returns-clause-earlier : goal.returns-clause-earlier
returns-clause-earlier g c x m =
    let records = ap (λ w. w.value.records) c.client.view_is in
    subst (λ n. IsEarlier c.args.self.now.renewal n x) (sym c.in-Some.ensures.some)
    (c.load_as-found.ensures.acted.told.3 x (subst (λ (rs : List Record). In x rs) (sym records) m))
