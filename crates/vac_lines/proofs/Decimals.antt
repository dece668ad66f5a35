-- A number that is written in decimal is read as itself.
use Rattle.std.proofs.Common.{◌≡◌, ℕ, ◌+◌, ◌*◌, ◌-◌, ◌/◌, ◌%◌, ◌≤◌, ◌<◌, ◌^◌, ◌&&◌, Bool, true, false, Ok, nat_le}
use Rattle.std.proofs.Common.{nat_lt, List, [], ◌∷◌, ◌++◌, length, decimal, arith, refl, ◌∙◌}
use Rattle.std.specs.List.{list_all}
use Rattle.std.specs.Char.{is_ascii_digit}
use Rattle.std.proofs.lemmas.Bool.{le-leb}
use Rattle.std.proofs.lemmas.Bool.Decides.{nat_tests}
use Rattle.std.proofs.lemmas.List.Folds.{list_all-append}
use Rattle.std.proofs.lemmas.List.Sums.{fold-append}
use Rattle.std.proofs.lemmas.Fmt.{decimal_by_steps, decimal_nonempty, length-decimal-le}
use Rattle.vac_lines.specs.Words.{decimal_value, is_dash, is_separator}
use Rattle.vac_lines.specs.LineTable.{at_number}

-- these digits write this number
record Writes (n : ℕ) (digits : List ℕ) : Type 0 where
  pub digits_are : list_all is_ascii_digit digits ≡ true
  pub value : decimal_value digits ≡ n

digit : (n : ℕ) → n < 10 → is_ascii_digit (48 + n) ≡ true
digit n h = grind (arith, nat_tests)

one_digit : (n : ℕ) → n < 10 → Writes n ((48 + n) ∷ [])
one_digit n h = record { digits_are = rw (digit n h) refl; value = omega arith }

digit_more : (n : ℕ) (digits : List ℕ) → 10 ≤ n → Writes (n / 10) digits → Writes n (digits ++ ((48 + n % 10) ∷ []))
digit_more n digits h w = record {
  digits_are = list_all-append is_ascii_digit digits ((48 + n % 10) ∷ []) ∙
      rw (w.digits_are, digit (n % 10) (omega arith)) refl;
  value =
      let last = fold-append (λ (m d : ℕ). 10 * m + (d - 48)) 0 digits ((48 + n % 10) ∷ []) in
      let front = w.value in
      omega (arith, last, front);
}

written : (n : ℕ) → n < 2 ^ 64 → Writes n (decimal n)
written n small = decimal_by_steps Writes one_digit digit_more n small

pub all_digits : (n : ℕ) → n < 2 ^ 64 → list_all is_ascii_digit (decimal n) ≡ true
all_digits n small = (written n small).digits_are

-- a number between two bounds is read as itself
pub number_read : (least most n : ℕ) → least ≤ n → n ≤ most → n < 2 ^ 32 → at_number least most (decimal n) ≡ Ok n
number_read least most n low high small =
    let some = decimal_nonempty n (omega arith) in
    let few = length-decimal-le 10 n (omega arith) (omega arith) (omega arith) in
    let w = written n (omega arith) in
    rw (
      le-leb 1 (length (decimal n)) some,
      le-leb (length (decimal n)) 10 few,
      w.digits_are,
      w.value,
      le-leb least n low,
      le-leb n most high,
    ) refl

and_left : (a b : Bool) → (a && b) ≡ true → a ≡ true
and_left true b e = refl
and_left false b e = e

and_right : (a b : Bool) → (a && b) ≡ true → b ≡ true
and_right true b e = e
and_right false b e = absurd (let k : false ≡ true = e in cc)

first_is_digit : (d : ℕ) (ds : List ℕ) → list_all is_ascii_digit (d ∷ ds) ≡ true → is_ascii_digit d ≡ true
first_is_digit d ds e = and_left (is_ascii_digit d) (list_all is_ascii_digit ds) e

no_dash : (digits : List ℕ) → list_all is_ascii_digit digits ≡ true → is_dash digits ≡ false
no_dash [] e = refl
no_dash (d ∷ ds) e = let h = first_is_digit d ds e in grind (arith, nat_tests, h)

no_separator : (digits : List ℕ) → list_all is_ascii_digit digits ≡ true → is_separator digits ≡ false
no_separator [] e = refl
no_separator (d ∷ ds) e = let h = first_is_digit d ds e in grind (arith, nat_tests, h)

-- a number is no dash
pub number_no_dash : (n : ℕ) → n < 2 ^ 64 → is_dash (decimal n) ≡ false
number_no_dash n small = no_dash (decimal n) (all_digits n small)

-- a number is no separator
pub number_no_separator : (n : ℕ) → n < 2 ^ 64 → is_separator (decimal n) ≡ false
number_no_separator n small = no_separator (decimal n) (all_digits n small)

-- true for a byte that a word of a line may have
abbrev pub is_word_byte : ℕ → Bool
is_word_byte b = nat_lt 32 b && nat_le b 126

digit_in_word : (d : ℕ) → is_ascii_digit d ≡ true → is_word_byte d ≡ true
digit_in_word d h = grind (arith, nat_tests, h)

digits_in_word : (digits : List ℕ) → list_all is_ascii_digit digits ≡ true → list_all is_word_byte digits ≡ true
digits_in_word [] e = refl
digits_in_word (d ∷ ds) e =
    rw (
      digit_in_word d (first_is_digit d ds e),
      digits_in_word ds
          (and_right (is_ascii_digit d) (list_all is_ascii_digit ds) e),
    ) refl

-- a word may have the bytes of a number
pub number_in_word : (n : ℕ) → n < 2 ^ 64 → list_all is_word_byte (decimal n) ≡ true
number_in_word n small = digits_in_word (decimal n) (all_digits n small)
