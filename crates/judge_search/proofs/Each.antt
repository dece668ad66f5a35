-- Facts of each element, and tests.
use Rattle.std.proofs.Common.{◌≡◌, ◌≢◌, ◌⊎◌, ℕ, ◌==◌, Bool, true, false, List, [], ◌∷◌, refl, sym, ◌∙◌, inl, inr, arith}
use Rattle.std.specs.Prelude.{⊤}
use Rattle.std.proofs.lemmas.Bool.Decides.{nat_tests}

-- a fact of each element
abbrev pub Each : {X : Type 0} → (X → Type 0) → List X → Type 0
Each P [] = ⊤
Each P (x ∷ xs) = P x × Each P xs

abbrev pub Test : ℕ → ℕ → Type 0
Test a b = ((a == b) ≡ true × (a ≡ b)) ⊎ ((a == b) ≡ false × (a ≢ b))

false_true : false ≡ true → ⊥
false_true e = cc

pub test : (a b : ℕ) → Test a b
test a b =
    go (a == b) refl
  where
    go : (t : Bool) → (a == b) ≡ t → Test a b
    go true e = inl (e, grind (arith, nat_tests))
    go false e = inr (e, (λ s. let t : (a == b) ≡ true = grind (arith, nat_tests) in false_true (sym e ∙ t)))

pub self : (a : ℕ) → (a == a) ≡ true
self a = grind (arith, nat_tests)

pub each_map : {X : Type 0} (P Q : X → Type 0) → ((x : X) → P x → Q x) → (xs : List X) → Each P xs → Each Q xs
each_map P Q f [] h = tt
each_map P Q f (x ∷ xs) h = (f x h.0, each_map P Q f xs h.1)

pub each_both : {X : Type 0} (P Q : X → Type 0) (xs : List X) → Each P xs → Each Q xs → Each (λ x. P x × Q x) xs
each_both P Q [] p q = tt
each_both P Q (x ∷ xs) p q = ((p.0, q.0), each_both P Q xs p.1 q.1)
