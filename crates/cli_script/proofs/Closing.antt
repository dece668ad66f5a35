-- The words of a system that is closed.
use Rattle.std.proofs.Common.{ℕ, List, subst}
use Rattle.stm_core.specs.Client.{Client}
use Rattle.stm_region.specs.Shown.{RegionShown}
use Rattle.vac_model.specs.State.{State, empty_state}
use Rattle.vac_manager.specs.Law.{Shows}
use Rattle.vac_manager.specs.Legal.{IsHistoryTo, capacity_of}
use Rattle.vac_manager.specs.Opening.{ClosesInState}
use Rattle.vac_manager.proofs.Histories.{one_last}

-- the words represent the state at which the manager stands
pub closed : (region : RegionShown) (v : Client) (words : List ℕ) (version : ℕ) → ClosesInState region v words version →
    (s : State) → IsHistoryTo region v.records s → Shows words s
closed region v words version c s h = subst (Shows words) (one_last
    (empty_state (capacity_of region)) v.records c.last s c.legal h) c.shown
