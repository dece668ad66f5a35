-- Runs are opaque, since every list of events is.
use Rattle.std.proofs.Common.{ℕ, List}
use Rattle.stm_core.specs.Client.{RecordLaw}
use Rattle.stm_replay.specs.Opacity.{EveryListIsOpaque}
use Rattle.stm_runs.specs.Opaque.{EveryRunIsOpaque}

pub every_run_is_opaque : (fits : List ℕ → Type 0) (lawful : RecordLaw) → EveryListIsOpaque lawful →
    EveryRunIsOpaque fits lawful
every_run_is_opaque fits lawful all moments moves run first one n =
    let t = one.lists n in
    let o = (moments n).opened in all o.first t.last o.stripes t.events t.core t.leads
