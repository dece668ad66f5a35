-- The clients that the threads of a test pass to each other.
use Rattle.std.specs.Prelude.{◌≡◌, Result, IfOk}
use Rattle.stm_core.specs.Core.{IsFreeHanded}
use Rattle.stm_region.specs.Shown.{RegionShown, ClientShown}

-- the client belongs to this region and holds no lock
abbrev pub IsClientOf : RegionShown → ClientShown → Type 0
IsClientOf region c = (c.table ≡ region.table) × IsFreeHanded c.value

-- if the moves succeeded, the client is returned, belongs to the region and holds no lock
abbrev pub GivesBack : {M E : Type 0} → RegionShown → Result (ClientShown × M) E → Type 0
GivesBack region moved = IfOk moved (λ r. IsClientOf region r.0)
