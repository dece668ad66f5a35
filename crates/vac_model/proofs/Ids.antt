-- The meaning of the test of an id.
use Rattle.std.proofs.Common.{◌≡◌, ℕ, ◌≤◌, ◌<◌, ◌^◌, Bool, true, false, refl, arith}
use Rattle.std.specs.Prelude.{◌&&◌, nat_lt, nat_le}
use Rattle.std.proofs.lemmas.Bool.Decides.{nat_tests}
use Rattle.vac_model.specs.Amounts.{is_id}

pub both_true : (a b : Bool) → (a && b) ≡ true → (a ≡ true) × (b ≡ true)
both_true true b e = (refl, e)
both_true false b e = absurd (let never : false ≡ true = e in cc)

pub id_low : (n : ℕ) → is_id n ≡ true → 1 ≤ n
id_low n e = let both = both_true (nat_le 1 n) (nat_lt n (2 ^ 32)) e in grind (arith, nat_tests, both.0)

pub id_high : (n : ℕ) → is_id n ≡ true → n < 2 ^ 32
id_high n e = let both = both_true (nat_le 1 n) (nat_lt n (2 ^ 32)) e in grind (arith, nat_tests, both.1)

pub id_between : (n : ℕ) → 1 ≤ n → n < 2 ^ 32 → is_id n ≡ true
id_between n low high = grind (arith, nat_tests)
