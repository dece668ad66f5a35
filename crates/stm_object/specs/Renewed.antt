-- The state after a renewal.
use Rattle.std.specs.Prelude.{◌≡◌, ℕ, List}
use Rattle.stm_core.specs.Client.{Client}
use Rattle.stm_region.specs.Shown.{RegionShown}
use Rattle.stm_region.specs.Refused.{MayRenew, RefusesRenewal}
use Rattle.stm_object.specs.Object.{Specification}
use Rattle.stm_object.specs.History.{Closes}
use Rattle.stm_object.specs.Callers.{UserShown}
use Rattle.stm_object.specs.declared.renew.RenewFault.{RenewFault}
use Rattle.stm_object.specs.declared.renew.RenewFault.TheVariants.{Kept, Closed}

-- the memory was closed with these words, at some version
abbrev pub ClosesSomewhere : {E : Type 0} → Specification E → RegionShown → Client → List ℕ
    → Type 0
ClosesSomewhere o region v words = (version : ℕ) × Closes o region v words version

-- a memory was not renewed: either the memory and its user are as they were, with the reason, or
-- the memory was closed with these words at this version
abbrev pub StaysUnrenewed : {E Own S : Type 0} → Specification E → RegionShown → UserShown Own → ℕ
    → RenewFault S E Own → Type 0
StaysUnrenewed o region user last (Kept r u fault) = (r ≡ region) × (u ≡ user)
    × RefusesRenewal region.renewal last user.value.grants fault
StaysUnrenewed o region user last (Closed words version) =
    Closes o region user.value words.items version × MayRenew region.renewal last user.value.grants
