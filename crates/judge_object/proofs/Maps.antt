-- The entries of a map by numbers after an insertion.
use Rattle.std.proofs.Common.{◌≡◌, ◌≢◌, ℕ, true, false, Some, refl, arith}
use Rattle.std.specs.Ordering.{nat_cmp, eq_by_cmp}
use Rattle.std.specs.FinMap.{FinMap, get, insert, get-insert}
use Rattle.std.proofs.lemmas.Cmp.{nat_cmp_total}
use Rattle.std.proofs.lemmas.Bool.Decides.{nat_tests}

pub get_here : {X : Type 0} (m : FinMap nat_cmp X) (a : ℕ) (v : X) → get (insert m a v) a ≡ Some v
get_here m a v =
    let t : eq_by_cmp nat_cmp a a ≡ true = grind (arith, nat_tests) in
    rw (get-insert nat_cmp_total m a v a, t) refl

pub get_other : {X : Type 0} (m : FinMap nat_cmp X) (a : ℕ) (v : X) (b : ℕ) → b ≢ a → get (insert m a v) b ≡ get m b
get_other m a v b ne =
    let t : eq_by_cmp nat_cmp b a ≡ false = grind (arith, nat_tests) in
    rw (get-insert nat_cmp_total m a v b, t) refl
