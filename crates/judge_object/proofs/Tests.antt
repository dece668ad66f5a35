-- Tests on numbers and what they say.
use Rattle.std.proofs.Common.{◌≡◌, ◌≢◌, ◌⊎◌, ℕ, ◌<◌, ◌≤◌, ◌==◌, ◌&&◌, ◌||◌, Bool, true, false, refl, arith, nat_lt, inl}
use Rattle.std.proofs.Common.{inr}
use Rattle.std.proofs.lemmas.Bool.{cases_lt}
use Rattle.std.proofs.lemmas.Bool.Decides.{nat_tests}

pub turn_from : (a b x y : ℕ) → (a == b && nat_lt x y) ≡ false → a ≡ b → y ≤ x
turn_from a b x y h e = grind (arith, nat_tests)

pub turn_test : (a b x y : ℕ) → (a ≡ b → y ≤ x) → (a == b && nat_lt x y) ≡ false
turn_test a b x y h = grind (arith, nat_tests)

pub time_from : (x y : ℕ) → nat_lt x y ≡ false → y ≤ x
time_from x y h = grind (arith, nat_tests)

pub time_test : (x y : ℕ) → y ≤ x → nat_lt x y ≡ false
time_test x y h = grind (arith, nat_tests)

pub before_of : (x y : ℕ) → nat_lt x y ≡ true → x < y
before_of x y h = grind (arith, nat_tests)

pub both_false : (a b : Bool) → (a || b) ≡ false → (a ≡ false) × (b ≡ false)
both_false true b h = cc
both_false false b h = (refl, h)

pub false_both : (a b : Bool) → a ≡ false → b ≡ false → (a || b) ≡ false
false_both a b h g = rw (h, g) refl

-- of two numbers, whether they are equal
abbrev pub Test : ℕ → ℕ → Type 0
Test a b = ((a == b) ≡ true × (a ≡ b)) ⊎ ((a == b) ≡ false × (a ≢ b))

same_here : (a b : ℕ) → a ≡ b → Test a b
same_here a b e = inl (let t : (a == b) ≡ true = grind (arith, nat_tests) in t, e)

other_here : (a b : ℕ) → a ≢ b → Test a b
other_here a b n = inr (let t : (a == b) ≡ false = grind (arith, nat_tests) in t, n)

pub test : (a b : ℕ) → Test a b
test a b = grind (arith, nat_tests, cases_lt a b, other_here a b, cases_lt b a, same_here a b)
