-- Tests and what they say.
use Rattle.std.proofs.Common.{◌≡◌, ◌⊎◌, ℕ, ◌<◌, ◌≤◌, ◌&&◌, ◌||◌, Bool, true, false, List, [], ◌∷◌, map, refl, sym, ap}
use Rattle.std.proofs.Common.{inl, inr, arith}
use Rattle.std.specs.Prelude.{nat_le, nat_lt, not}
use Rattle.std.specs.List.{list_any}
use Rattle.std.proofs.lemmas.Bool.Decides.{nat_tests}
use Rattle.judge_snapshot.specs.Snapshots.{Each}

pub false_true : false ≡ true → ⊥
false_true e = cc

pub both : (a b : Bool) → (a && b) ≡ true → (a ≡ true) × (b ≡ true)
both true b e = (refl, e)
both false b e = absurd (false_true e)

pub and_of : (a b : Bool) → a ≡ true → b ≡ true → (a && b) ≡ true
and_of true b e f = f
and_of false b e f = absurd (false_true e)

pub not_true : (b : Bool) → not b ≡ true → b ≡ false
not_true true e = absurd (false_true e)
not_true false e = refl

pub true_not : (b : Bool) → b ≡ false → not b ≡ true
true_not b e = ap not e

pub by_test : (a b : ℕ) → nat_le a b ≡ true → a ≤ b
by_test a b e = grind (arith, nat_tests, e)

pub test_of : (a b : ℕ) → a ≤ b → nat_le a b ≡ true
test_of a b e = grind (arith, nat_tests, e)

pub lt_test : (a b : ℕ) → a < b → nat_lt a b ≡ true
lt_test a b e = grind (arith, nat_tests, e)

pub lt_from : (a b : ℕ) → nat_lt a b ≡ true → a < b
lt_from a b e = grind (arith, nat_tests, e)

either : (a b : Bool) → (a || b) ≡ false → (a ≡ false) × (b ≡ false)
either true b e = absurd (false_true (sym e))
either false b e = (refl, e)

pub either_true : (a b c : Bool) → (a && b || c) ≡ true → ((a ≡ true) × (b ≡ true)) ⊎ (c ≡ true)
either_true true true c e = inl (refl, refl)
either_true true false c e = inr e
either_true false b c e = inr e

module _ {A : Type 0} (p : A → Bool) where
  pub each_of : (xs : List A) → list_any p xs ≡ false → Each (λ x. p x ≡ false) xs
  each_of [] e = tt
  each_of (x ∷ xs) e = let parts = either (p x) (list_any p xs) e in (parts.0, each_of xs parts.1)

  pub of_each : (xs : List A) → Each (λ x. p x ≡ false) xs → list_any p xs ≡ false
  of_each [] h = refl
  of_each (x ∷ xs) h = rw h.0 (of_each xs h.1)

-- ---- elements

module _ {A : Type 0} where
  abbrev pub In : A → List A → Type 0
  In x [] = ⊥
  In x (y ∷ ys) = (x ≡ y) ⊎ In x ys

module _ {A B : Type 0} (f : A → B) where
  pub record Image (xs : List A) (y : B) : Type 0 where
    pub from : A
    pub is : In from xs
    pub gives : y ≡ f from

  pub image : (xs : List A) (y : B) → In y (map f xs) → Image xs y
  image [] y h = absurd h
  image (x ∷ xs) y (inl e) = record { from = x; is = inl refl; gives = e }
  image (x ∷ xs) y (inr h) =
      let more = image xs y h in record { from = more.from; is = inr more.is; gives = more.gives }

  pub in_map : (xs : List A) (x : A) → In x xs → In (f x) (map f xs)
  in_map [] x h = absurd h
  in_map (y ∷ xs) x (inl e) = inl (ap f e)
  in_map (y ∷ xs) x (inr h) = inr (in_map xs x h)
