-- The number that digits write grows with each digit.
use Rattle.std.proofs.Common.{◌≡◌, ℕ, ◌+◌, ◌*◌, ◌-◌, ◌≤◌, ◌<◌, ◌&&◌, true, Option, Some, None, if◌then◌else◌, nat_lt}
use Rattle.std.proofs.Common.{List, [], ◌∷◌, length, get_or, take, drop, arith, subst, sym, ap, ◌∙◌, refl, lt-ltb}
use Rattle.std.specs.List.{fold, list_all}
use Rattle.std.specs.Char.{is_ascii_digit}
use Rattle.std.proofs.lemmas.Bool.{le-ltb}
use Rattle.std.proofs.Math.Bool.{and-false}
use Rattle.std.proofs.lemmas.Grind.{common_steps}
use Rattle.std.proofs.lemmas.List.{take-append-drop, take_all}
use Rattle.std.proofs.lemmas.List.Sums.{fold-append}
use Rattle.vac_lines.specs.Words.{decimal_value}

-- the number with one more digit at its end
abbrev with_digit : ℕ → ℕ → ℕ
with_digit n digit = 10 * n + (digit - 48)

more_digits : (n : ℕ) (digits : List ℕ) → n ≤ fold with_digit n digits
more_digits n [] = omega arith
more_digits n (d ∷ ds) = let more = more_digits (with_digit n d) ds in omega arith

-- the first digits of a number write no larger number
pub first_digits : (i : ℕ) (digits : List ℕ) → decimal_value (take i digits) ≤ decimal_value digits
first_digits i digits =
    let more = more_digits (decimal_value (take i digits)) (drop i digits) in
    subst (λ ds. decimal_value (take i digits) ≤ decimal_value ds) (take-append-drop i digits)
    (subst (λ n. decimal_value (take i digits) ≤ n) (sym (fold-append with_digit 0 (take i digits) (drop i digits)))
    more)

-- the number that decimal digits write, if it is below a bound
abbrev pub value_below : ℕ → List ℕ → Option ℕ
value_below most digits = if list_all is_ascii_digit digits && nat_lt (decimal_value digits) most then Some
    (decimal_value digits) else None

-- one more digit reaches the bound
pub value_reaches : (most : ℕ) (digits : List ℕ) (i n : ℕ) → n ≡ decimal_value (take i digits) → i < length digits
    → most ≤ 10 * n + (get_or digits i 0 - 48) → value_below most digits ≡ None
value_reaches most digits i n e h g =
    let step : decimal_value (take (i + 1) digits) ≡ 10 * decimal_value (take i digits) + (get_or digits i 0 - 48) =
    grind (arith, common_steps) in
    let more = first_digits (i + 1) digits in
    let reached : most ≤ decimal_value digits = omega arith in
    rw (le-ltb (decimal_value digits) most reached, and-false) refl

-- all digits were read, and the bound is not reached
pub value_found : (most : ℕ) (digits : List ℕ) (i n : ℕ) → n ≡ decimal_value (take i digits) → length digits ≤ i
    → list_all is_ascii_digit (take i digits) ≡ true → n < most → Some n ≡ value_below most digits
value_found most digits i n e h d g =
    let whole = take_all i digits h in
    let all : list_all is_ascii_digit digits ≡ true = subst (λ ds. list_all is_ascii_digit ds ≡ true) whole d in
    let same : n ≡ decimal_value digits = e ∙ ap decimal_value whole in
    let below : decimal_value digits < most = omega arith in
    ap Some same ∙ sym (rw (all, lt-ltb (decimal_value digits) most below) refl)
