-- The number of keys up to a key, found within a window.
use Rattle.std.proofs.Common.{◌≡◌, ℕ, ◌+◌, ◌-◌, ◌<◌, ◌≤◌, true, false, List, cond, length, take, drop, get_or}
use Rattle.std.proofs.Common.{inl, inr, ap, arith, nat_le}
use Rattle.std.specs.List.Sorted.{IsNonDecreasing}
use Rattle.std.proofs.lemmas.Bool.{cases_lt}
use Rattle.std.proofs.lemmas.Bool.Decides.{nat_tests}
use Rattle.std.proofs.lemmas.List.{get_or-take, get_or-drop, get_or_default, length-take-le, length-drop}
use Rattle.std.proofs.lemmas.List.Sums.{sum_by-take-drop, count_by-le-length}
use Rattle.std.proofs.lemmas.List.Sorted.{IsNonDecreasingBy-take, IsNonDecreasingBy-drop}
use Rattle.judge_coverage.specs.Moments.{number_up_to}
use Rattle.judge_coverage.proofs.Counting.{count_parted, count_none}

le_true : (a b : ℕ) → a ≤ b → nat_le a b ≡ true
le_true a b h = grind (arith, nat_tests)

le_false : (a b : ℕ) → b < a → nat_le a b ≡ false
le_false a b h = grind (arith, nat_tests)

-- the last key is at most this one, so all are
all_up_to : (keys : List ℕ) (key : ℕ) → IsNonDecreasing keys →
    (0 < length keys → get_or keys (length keys - 1) 0 ≤ key) → number_up_to key keys ≡ length keys
all_up_to keys key sorted last =
    count_parted (λ other. nat_le other key) keys (length keys) (omega arith)
    (λ k d h. le_true (get_or keys k d) key
    (omega (
      arith,
      sorted k (length keys - 1) d (omega arith) (omega arith),
      last (omega arith),
      get_or_default keys (length keys - 1) d 0 (omega arith),
    )))
    (λ k d a b. let none : ⊥ = omega arith in absurd none)

-- the first key is greater than this one, so all are
none_up_to : (keys : List ℕ) (key : ℕ) → IsNonDecreasing keys →
    (0 < length keys → key < get_or keys 0 0) → number_up_to key keys ≡ 0
none_up_to keys key sorted first =
    count_none (λ other. nat_le other key) keys
    (λ k d h. le_false (get_or keys k d) key
    (omega (arith, sorted 0 k d (omega arith) h, first (omega arith), get_or_default keys 0 d 0 (omega arith))))

module _ (keys : List ℕ) (start width key : ℕ) (sorted : IsNonDecreasing keys) (within : start + width ≤ length keys)
  where
    abbrev pub before : List ℕ
    before = take start keys

    abbrev pub rest : List ℕ
    rest = drop start keys

    abbrev pub window : List ℕ
    window = take width rest

    abbrev pub after : List ℕ
    after = drop width rest

    -- the keys before the window, those in the window, and those after it
    in_parts : number_up_to key keys
        ≡ number_up_to key before + (number_up_to key window + number_up_to key after)
    in_parts =
        let test : ℕ → ℕ = λ other. cond (nat_le other key) 1 0 in
        let halves : number_up_to key before + number_up_to key rest ≡ number_up_to key keys =
        sum_by-take-drop test keys start in
        let quarters : number_up_to key window + number_up_to key after ≡ number_up_to key rest =
        sum_by-take-drop test rest width in
        omega (arith, halves, quarters)

    rest_sorted : IsNonDecreasing rest
    rest_sorted = IsNonDecreasingBy-drop (λ x. x) start keys sorted

    window_sorted : IsNonDecreasing window
    window_sorted = IsNonDecreasingBy-take (λ x. x) width rest rest_sorted

    rest_long : length rest ≡ length keys - start
    rest_long = length-drop start keys

    window_long : length window ≡ width
    window_long = length-take-le width rest (omega (arith, rest_long))

    before_long : length before ≡ start
    before_long = length-take-le start keys (omega arith)

    after_long : length after ≡ length rest - width
    after_long = length-drop width rest

    -- a key of the window is up to the key, so all keys before the window are
    all_before : 0 < number_up_to key window → number_up_to key before ≡ start
    all_before some =
        elim (cases_lt key (get_or window 0 0)) [
          | inl high ↦
              let none : number_up_to key window ≡ 0 = none_up_to window key window_sorted (λ h. high) in
              let no : ⊥ = omega arith in absurd no
          | inr low ↦
              let zero : start + 0 ≡ start = omega arith in
              let all : number_up_to key before ≡ length before =
              all_up_to before key (IsNonDecreasingBy-take (λ x. x) start keys sorted)
              (λ h. omega (
                arith,
                before_long,
                low,
                get_or-take start keys (length before - 1) 0 (omega (arith, before_long)),
                get_or-take width rest 0 0 (omega (arith, window_long, few_width some)),
                get_or-drop start keys 0 0,
                ap (λ i. get_or keys i 0) zero,
                sorted (length before - 1) start 0 (omega (arith, before_long)) (omega (arith, few_width some)),
              )) in
              omega (arith, all, before_long)
        ]
      where
        few_width : 0 < number_up_to key window → 0 < width
        few_width h = elim (cases_lt 0 width) [
          | inl w ↦ w
          | inr w ↦
              let none : number_up_to key window ≡ 0 = none_up_to window key window_sorted
              (λ l. let no : ⊥ = omega (arith, window_long) in absurd no) in
              omega arith
        ]

    -- a key of the window is greater, so all keys after the window are
    none_after : number_up_to key window < width → number_up_to key after ≡ 0
    none_after few =
        elim (cases_lt key (get_or window (length window - 1) 0)) [
          | inl high ↦
              let zero : width + 0 ≡ width = omega arith in
              none_up_to after key (IsNonDecreasingBy-drop (λ x. x) width rest rest_sorted)
              (λ h. omega (
                arith,
                window_long,
                after_long,
                high,
                get_or-take width rest (length window - 1) 0 (omega (arith, window_long)),
                get_or-drop width rest 0 0,
                ap (λ i. get_or rest i 0) zero,
                rest_sorted (length window - 1) width 0 (omega (arith, window_long)) (omega (arith, after_long)),
              ))
          | inr low ↦
              let all : number_up_to key window ≡ length window = all_up_to window key window_sorted (λ h. low) in
              let no : ⊥ = omega (arith, window_long) in absurd no
        ]

    -- so the window decides the number
    pub in_window : 0 < number_up_to key window → number_up_to key window < width →
        start + number_up_to key window ≡ number_up_to key keys
    in_window some few = omega (arith, in_parts, all_before some, none_after few)

    -- a window has no more keys up to a key than it has keys
    pub window_short : number_up_to key window ≤ width
    window_short =
        let short : number_up_to key window ≤ length window = count_by-le-length (λ other. nat_le other key) window in
        omega (arith, short, window_long)
