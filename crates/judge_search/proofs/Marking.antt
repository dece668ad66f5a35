-- Marks with one more.
use Rattle.std.proofs.Common.{◌≡◌, ℕ, ◌+◌, ◌≤◌, ◌<◌, ◌==◌, ◌||◌, suc, zero, Bool, true, false, List, [], ◌∷◌, ◌++◌}
use Rattle.std.proofs.Common.{take, drop, length, get_or, refl, sym, ap, ◌∙◌, arith, nat_lt}
use Rattle.std.specs.List.{list_any}
use Rattle.std.proofs.lemmas.Bool.Decides.{nat_tests}
use Rattle.std.proofs.lemmas.List.{drop_more}
use Rattle.std.proofs.lemmas.List.Folds.{list_any-append}
use Rattle.judge_search.specs.Marks.{is_made}

low_more : (p n : ℕ) → nat_lt p (n + 1) ≡ (nat_lt p n || n == p)
low_more p n = go (nat_lt p n) refl (n == p) refl
  where
    go : (x : Bool) → nat_lt p n ≡ x → (y : Bool) → (n == p) ≡ y → nat_lt p (n + 1) ≡ (x || y)
    go true e y f = grind (arith, nat_tests)
    go false e true f = grind (arith, nat_tests)
    go false e false f = grind (arith, nat_tests)

turned : (a b : ℕ) → (a == b) ≡ (b == a)
turned a b = go (a == b) refl
  where
    go : (x : Bool) → (a == b) ≡ x → x ≡ (b == a)
    go true e = grind (arith, nat_tests)
    go false e = grind (arith, nat_tests)

or_swap : (a b c : Bool) → ((a || b) || c) ≡ ((a || c) || b)
or_swap true b c = refl
or_swap false true true = refl
or_swap false true false = refl
or_swap false false true = refl
or_swap false false false = refl

or_assoc : (a b c : Bool) → ((a || b) || c) ≡ (a || (b || c))
or_assoc true b c = refl
or_assoc false b c = refl

-- the first place that had none
pub mark_first : (low : ℕ) (beyond : List ℕ) (p : ℕ) → is_made (low + 1) beyond p ≡ (is_made low beyond p || p == low)
mark_first low beyond p =
    let any = list_any (λ o. o == p) beyond in
    ap (λ b. b || any) (low_more p low) ∙ or_swap (nat_lt p low) (low ==
    p) any ∙ ap (λ b. (nat_lt p low || any) || b) (turned low p)

-- a mark that follows
pub mark_next : (next : ℕ) (beyond : List ℕ) (p : ℕ) → is_made (next + 1) beyond p ≡ is_made next (next ∷ beyond) p
mark_next next beyond p =
    let any = list_any (λ o. o == p) beyond in
    ap (λ b. b || any) (low_more p next) ∙ or_assoc (nat_lt p next) (next == p) any

-- the marks that follow on the first place that had none are passed, one by one
pub record Passes (low : ℕ) (beyond : List ℕ) (next passed : ℕ) : Type 0 where
  pub within : passed ≤ length beyond
  pub made : (p : ℕ) → is_made next (drop passed beyond) p ≡ (is_made low beyond p || p == low)

pub passes_none : (low : ℕ) (beyond : List ℕ) → Passes low beyond (low + 1) 0
passes_none low beyond = record { within = omega arith; made = mark_first low beyond }

pub passes_more : (low : ℕ) (beyond : List ℕ) (next passed d : ℕ) → Passes low beyond next passed →
    passed < length beyond → get_or beyond passed d ≡ next → Passes low beyond (next + 1) (passed + 1)
passes_more low beyond next passed d h l e = record {
  within = omega arith;
  made = λ p.
      mark_next next (drop (passed + 1) beyond) p
      ∙ ap (λ n. is_made next (n ∷ drop (passed + 1) beyond) p) (sym e)
      ∙ ap (λ ms. is_made next ms p) (sym (drop_more beyond passed d l)) ∙ h.made p;
}

cut : (xs : List ℕ) (n : ℕ) → take n xs ++ drop n xs ≡ xs
cut xs zero = refl
cut [] (suc n) = refl
cut (x ∷ xs) (suc n) = ap (λ l. x ∷ l) (cut xs n)

or_in : (a b c d : Bool) → (a || (b || (c || d))) ≡ ((a || (b || d)) || c)
or_in true b c d = refl
or_in false true c d = refl
or_in false false true true = refl
or_in false false true false = refl
or_in false false false true = refl
or_in false false false false = refl

-- a mark among the others
pub mark_among : (low : ℕ) (beyond : List ℕ) (place n p : ℕ) →
    is_made low (take n beyond ++ place ∷ drop n beyond) p ≡ (is_made low beyond p || p == place)
mark_among low beyond place n p =
    let any = λ (l : List ℕ). list_any (λ o. o == p) l in
    ap (λ b. nat_lt p low || b) (list_any-append (λ o. o == p) (take n beyond) (place ∷ drop n beyond))
    ∙ or_in (nat_lt p low) (any (take n beyond)) (place == p) (any (drop n beyond))
    ∙ ap (λ b. (nat_lt p low || b) || (place == p)) (sym (list_any-append (λ o. o == p) (take n beyond) (drop n beyond))
    ∙ ap any (cut beyond n))
    ∙ ap (λ b. (nat_lt p low || any beyond) || b) (turned place p)
