-- A manager that is opened with its one client.
use Rattle.std.proofs.Common.{ℕ, refl, sym, subst}
use Rattle.stm_region.specs.Shown.{RegionShown}
use Rattle.vac_manager.specs.Called.{ClientShown}
use Rattle.vac_manager.specs.Opening.{Opens}
use Rattle.cli_script.specs.declared.system.TheConstants.{LAST_VERSION}
use Rattle.cli_script.specs.System.{OpensAlone}

-- the client is alone, and the manager has no entry yet
pub opened : (n stripes : ℕ) (region : RegionShown) (client : ClientShown) →
    Opens n LAST_VERSION stripes region client → OpensAlone n (record { shared = region; user = client })
opened n stripes region client o =
    subst (λ (x : ClientShown). OpensAlone n (record { shared = region; user = x })) (sym o.client_is) (record {
      own = refl;
      alone = record { all = refl; last = o.last_is };
      capacity = o.capacity;
      fresh = record { stands = refl; floor = refl };
    })
