use Rattle.std.proofs.Common.{ap, subst}
use Rattle.stm_core.specs.Client.{Client}
use Rattle.stm_core.specs.Event.{probe}
use Rattle.stm_region.specs.Findings.{IsLoneOpen, LoneTells}
use Rattle.stm_region.proofs.region.Region.probe.Goals as goal

pub returns-clause-lone : goal.returns-clause-lone
returns-clause-lone g c =
    let now = ap (λ w. w.value) c.client.view_is in
    subst (λ (v : Client). IsLoneOpen v → LoneTells (probe c.args.lock) c.load_as.result v v) now
    c.load_as.ensures.acted.told.1
