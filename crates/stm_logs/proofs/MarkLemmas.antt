-- The marks of addresses.
use Rattle.std.proofs.Common.{◌≡◌, ℕ, zero, suc, ◌%◌, false, refl, get_or}
use Rattle.std.proofs.Math.ListN.{replicate}
use Rattle.stm_logs.specs.declared.marks.TheConstants.{MARKS}

none_set : (n i : ℕ) → get_or (replicate n false) i false ≡ false
none_set zero i = refl
none_set (suc n) zero = refl
none_set (suc n) (suc i) = none_set n i

-- without a mark no address is marked
pub unmarked : (n a : ℕ) → get_or (replicate n false) (a % MARKS) false ≡ false
unmarked n a = none_set n (a % MARKS)
