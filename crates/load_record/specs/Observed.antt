-- A memory whose accesses are recorded.
use Rattle.std.specs.Prelude.{◌≡◌, ℕ, List, [], ◌∷◌, ◌++◌, Option, Some}
use Rattle.std.specs.FinMap as finite
use Rattle.std.specs.Coded.{Coded-set, coded_ℕ, coded_bool}
use mathlib.Core.HLevel.{Π_prop, ×₃_prop}
use Rattle.tx_memory.specs.View.{Words}
use Rattle.tx_memory.specs.declared.access.Access.{Access}
use Rattle.tx_memory.specs.Accesses.{IsTracked}

-- one more access was recorded, after the others; or there was no room for it, or for an earlier
-- one
abbrev pub HasSeen : Access → Option (List Access) → Option (List Access) → Type 0
HasSeen access before after = (all : List Access) → after ≡ Some all →
    (earlier : List Access) × (before ≡ Some earlier) × (all ≡ earlier ++ (access ∷ []))

-- the origin of an observed memory, which no access changes: that of the memory, and the names of
-- the memory and of the list of accesses
pub record ObservedOrigin (M : Type 0) : Type 0 where
  pub origin : M
  pub memory_name : ℕ
  pub accesses_name : ℕ

-- there is at most one proof of `IsTracked`
pub IsTracked-prop : (seen : Option (List Access)) (reads writes : Words) →
    IsProp (IsTracked seen reads writes)
IsTracked-prop seen reads writes =
    Π_prop (λ accesses. Π_prop (λ e. ×₃_prop (Coded-set (finite.code coded_ℕ coded_ℕ) _ _)
    (Coded-set (finite.code coded_ℕ coded_ℕ) _ _) (Coded-set coded_bool _ _)))
