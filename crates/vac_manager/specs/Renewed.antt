-- The result of a manager's renewal.
use Rattle.std.specs.Prelude.{◌≡◌, ◌+◌, ℕ, List}
use Rattle.stm_core.specs.Client.{Client}
use Rattle.stm_core.specs.Event.{renewing}
use Rattle.stm_region.specs.Shown.{RegionShown}
use Rattle.stm_region.specs.Refused.{MayRenew, RefusesRenewal}
use Rattle.vac_manager.specs.Called.{ClientShown}
use Rattle.vac_manager.specs.Opening.{ClosesInState}
use Rattle.vac_manager.specs.declared.renew.RenewFault.{RenewFault}
use Rattle.vac_manager.specs.declared.renew.RenewFault.TheVariants.{Kept, Closed}

-- the manager was closed with these words, at some version
abbrev pub ClosesSomewhere : RegionShown → Client → List ℕ → Type 0
ClosesSomewhere region v words = (version : ℕ) × ClosesInState region v words version

-- a manager was renewed with a clock that ends at this last version: the manager is the same
-- except for one more renewal, the client has its value after a renewal, and the manager goes on
-- with the words with which it was closed
pub record Renews (last : ℕ) (region : RegionShown) (c : ClientShown) (region' : RegionShown)
    (c' : ClientShown) : Type 0 where
  pub manager : region' ≡ record region {
    table = region'.table;
    last = last;
    opening = region'.opening;
    renewal = region.renewal + 1;
    start = renewing c.value;
  }
  pub client : c' ≡ record c { table = region'.table; value = renewing c.value }
  pub words : ClosesSomewhere region c.value region'.opening
  pub ranges : MayRenew region.renewal last c.value.grants

-- a manager was not renewed: either the manager and its client are as they were, with the reason,
-- or the manager was closed with these words at this version
abbrev pub StaysUnrenewed : RegionShown → ClientShown → ℕ → RenewFault → Type 0
StaysUnrenewed region client last (Kept manager c fault) = (manager ≡ region) × (c ≡ client)
    × RefusesRenewal region.renewal last client.value.grants fault
StaysUnrenewed region client last (Closed words version) =
    ClosesInState region client.value words.items version
    × MayRenew region.renewal last client.value.grants
