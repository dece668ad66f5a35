-- The outcomes of a renewal.
use Rattle.std.specs.Prelude.{◌≡◌, ℕ, List}
use Rattle.stm_core.specs.Client.{Client, RecordLaw}
use Rattle.stm_region.specs.Shown.{RegionShown, ClientShown}
use Rattle.stm_region.specs.Closed.{Ends}
use Rattle.stm_region.specs.Refused.{MayRenew, RefusesRenewal}
use Rattle.stm_region.specs.declared.renew.RenewFault.{RenewFault}
use Rattle.stm_region.specs.declared.renew.RenewFault.TheVariants.{Kept, Closed}

-- the old region ended with these words, at some version
-- Not said: which step of the old clock was its last.
abbrev pub EndsSomewhere : RecordLaw → RegionShown → Client → List ℕ → Type 0
EndsSomewhere lawful region v words = (version : ℕ) × Ends lawful region v words version

-- a region was not renewed: the region and its client are as before, with the reason, or the
-- region ended with these words at this version
abbrev pub NotRenewed : {L A : Type 0} → RecordLaw →
    RegionShown → ClientShown → ℕ → RenewFault L A → Type 0
NotRenewed lawful region client last (Kept r c fault) =
    (r ≡ region) × (c ≡ client) × RefusesRenewal region.renewal last client.value.grants fault
NotRenewed lawful region client last (Closed words version) =
    Ends lawful region client.value words.items version
    × MayRenew region.renewal last client.value.grants
