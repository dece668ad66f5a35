-- The effect of the validation of one lock on a client's value.
use Rattle.std.specs.Prelude.{◌≡◌, ℕ, Bool}
use Rattle.stm_core.specs.Client.{Client}
use Rattle.stm_core.specs.Event.{validate, after, passes}
use Rattle.stm_region.specs.Shown.{RegionShown, unplaced}
use Rattle.stm_core.specs.Guards.{stripe_of}

-- the lock was validated in one step, which passed or failed as stated
abbrev pub HasValidatedLock : RegionShown → ℕ → Bool → Client → Client → Type 0
HasValidatedLock region lock passed v v' = (word : ℕ) ×
    (v' ≡ after (unplaced region.renewal) (stripe_of region.stripes) (validate lock) word v) ×
    (passes lock word v ≡ passed)
