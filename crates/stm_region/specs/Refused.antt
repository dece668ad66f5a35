-- The conditions under which a region refuses a call.
use Rattle.std.specs.Prelude.{◌≡◌, ℕ, ◌-◌, ◌<◌, ◌≤◌}
use Rattle.stm_region.specs.declared.fault.RegionFault.{RegionFault}
use Rattle.stm_region.specs.declared.fault.RegionFault.TheVariants.{Size, Last, Memory, Clients, StillOut, Stripes, Renewals}
use Rattle.stm_core.specs.declared.version.TheConstants.{VERSION_LIMIT}
use Rattle.stm_core.specs.declared.limits.TheConstants.{MOST_WORDS, MOST_STRIPES, MOST_RENEWALS}
use Rattle.stm_region.specs.declared.limits.TheConstants.{MOST_GRANTS}

-- a region may have this many data words
abbrev pub IsSize : ℕ → Type 0
IsSize n = (1 ≤ n) × (n ≤ MOST_WORDS)

-- the clock of a region may end at this version
abbrev pub IsLast : ℕ → Type 0
IsLast n = (1 ≤ n) × (n < VERSION_LIMIT)

-- a region may have this many lock words
abbrev pub IsStripes : ℕ → Type 0
IsStripes n = (1 ≤ n) × (n ≤ MOST_STRIPES)

-- the conditions of each refusal of an opening: the first argument that is out of range, or no
-- memory
abbrev pub RefusesOpening : ℕ → ℕ → ℕ → RegionFault → Type 0
RefusesOpening size last stripes Size = ¬ IsSize size
RefusesOpening size last stripes Last = IsSize size × ¬ IsLast last
RefusesOpening size last stripes Memory = IsSize size × IsLast last × IsStripes stripes
RefusesOpening size last stripes Clients = ⊥
RefusesOpening size last stripes (StillOut out) = ⊥
RefusesOpening size last stripes Stripes = IsSize size × IsLast last × ¬ IsStripes stripes
RefusesOpening size last stripes Renewals = ⊥

-- the conditions of each refusal of a close: other clients are out, as the client's grants show,
-- or no memory
-- Not said: how many other clients are out, as these may have gathered others: the number is 63
-- less the grants of the closing client.
abbrev pub RefusesClose : ℕ → RegionFault → Type 0
RefusesClose grants Size = ⊥
RefusesClose grants Last = ⊥
RefusesClose grants Memory = grants ≡ MOST_GRANTS
RefusesClose grants Clients = ⊥
RefusesClose grants (StillOut out) = (grants < MOST_GRANTS) × (out ≡ MOST_GRANTS - grants)
RefusesClose grants Stripes = ⊥
RefusesClose grants Renewals = ⊥

-- a region may be renewed: the new last version is in range, a renewal is left, and no other
-- client is out
abbrev pub MayRenew : ℕ → ℕ → ℕ → Type 0
MayRenew renewals last grants =
    IsLast last × (renewals < MOST_RENEWALS) × (grants ≡ MOST_GRANTS)

-- the conditions of each refusal of a renewal before any word was moved: the first of its reasons,
-- or no memory
abbrev pub RefusesRenewal : ℕ → ℕ → ℕ → RegionFault → Type 0
RefusesRenewal renewals last grants Size = ⊥
RefusesRenewal renewals last grants Last = ¬ IsLast last
RefusesRenewal renewals last grants Memory = MayRenew renewals last grants
RefusesRenewal renewals last grants Clients = ⊥
RefusesRenewal renewals last grants (StillOut out) =
    IsLast last × (renewals < MOST_RENEWALS) × (grants < MOST_GRANTS)
    × (out ≡ MOST_GRANTS - grants)
RefusesRenewal renewals last grants Stripes = ⊥
RefusesRenewal renewals last grants Renewals = IsLast last × (MOST_RENEWALS ≤ renewals)
