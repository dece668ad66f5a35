-- Lists of clients and of pairs.
use Rattle.std.proofs.Common.{length, ◌<◌, Bool, true, false, ◌≡◌, ◌≢◌, ℕ, zero, suc, ◌⊎◌, inl, inr, ⊎_elim, List, []}
use Rattle.std.proofs.Common.{◌∷◌, ◌++◌, set, refl, sym, ap, ◌∙◌, subst, arith}
use mathlib.Core.Option.{some, some-injective, some-ne-none}
use lib.ListN.{get_elem?}
use mathlib.Core.Logic.{dite}
use native.Mathlib.Decide.{ℕ_discrete}
use Rattle.tx_memory.specs.Image.{In}
pub use Rattle.stm_core.specs.Merging.{nothing_in}

module _ {A : Type 0} where
  pub at_set : (l : List A) (i j : ℕ) (a b : A) → get_elem? (set l i a) j ≡ some b →
      ((j ≡ i) × (a ≡ b)) ⊎ ((j ≢ i) × (get_elem? l j ≡ some b))
  at_set [] i j a b e = absurd (some-ne-none b (sym e))
  at_set (x ∷ xs) zero zero a b e = inl (refl, some-injective a b e)
  at_set (x ∷ xs) zero (suc j) a b e = inr ((λ h. omega arith), e)
  at_set (x ∷ xs) (suc i) zero a b e = inr ((λ h. omega arith), e)
  at_set (x ∷ xs) (suc i) (suc j) a b e = ⊎_elim (λ t. inl (ap suc t.0, t.1)) (λ t. let n = t.0 in
      inr ((λ h. n (omega arith)), t.1)) (at_set xs i j a b e)

  pub set_here : (l : List A) (i : ℕ) (v a : A) → get_elem? l i ≡ some v → get_elem? (set l i a) i ≡ some a
  set_here [] i v a e = absurd (some-ne-none v (sym e))
  set_here (x ∷ xs) zero v a e = refl
  set_here (x ∷ xs) (suc i) v a e = set_here xs i v a e

  pub set_else : (l : List A) (i j : ℕ) (a b : A) → j ≢ i → get_elem? l j ≡ some b → get_elem? (set l i a) j ≡ some b
  set_else [] i j a b n e = e
  set_else (x ∷ xs) zero zero a b n e = absurd (n refl)
  set_else (x ∷ xs) zero (suc j) a b n e = e
  set_else (x ∷ xs) (suc i) zero a b n e = e
  set_else (x ∷ xs) (suc i) (suc j) a b n e = set_else xs i j a b (λ h. n (ap suc h)) e

  pub at_snoc : (l : List A) (a b : A) (j : ℕ) → get_elem? (l ++ a ∷ []) j ≡ some b → (get_elem? l j ≡ some b) ⊎ (a ≡ b)
  at_snoc [] a b zero e = inr (some-injective a b e)
  at_snoc [] a b (suc j) e = absurd (some-ne-none b (sym e))
  at_snoc (x ∷ xs) a b zero e = inl e
  at_snoc (x ∷ xs) a b (suc j) e = at_snoc xs a b j e

  pub same_at : (l : List A) (i : ℕ) (a b : A) → get_elem? l i ≡ some a → get_elem? l i ≡ some b → a ≡ b
  same_at l i a b p q = some-injective a b (sym p ∙ q)

  pub in_snoc : (l : List A) (a b : A) → In b (l ++ a ∷ []) → In b l ⊎ (a ≡ b)
  in_snoc l a b h = ⊎_elim (λ p. inl (h.0, p)) (λ p. inr p) (at_snoc l a b h.0 h.1)

  -- a property of the element that is set at an index, and of all elements at other indices, holds
  -- of every element then
  pub who_set : (l : List A) (id : ℕ) (w : A) (P : ℕ → A → Type 0) → P id w →
      ((i : ℕ) (o : A) → get_elem? l i ≡ some o → i ≢ id → P i o) → (i : ℕ) (o : A) →
      get_elem? (set l id w) i ≡ some o → P i o
  who_set l id w P mine else i o e = ⊎_elim (λ p. subst (λ c. P i c) p.1 (subst (λ j. P j w) (sym p.0) mine))
      (λ p. else i o p.1 p.0) (at_set l id i w o e)

  pub only_one : (x : A) (i : ℕ) (v : A) → get_elem? (x ∷ []) i ≡ some v → x ≡ v
  only_one x zero v e = some-injective x v e
  only_one x (suc i) v e = absurd (some-ne-none v (sym e))

  -- the element at an index before and after `new` is written over `v`
  abbrev pub Turned : A → A → A → A → Type 0
  Turned v new o w = ((o ≡ v) × (w ≡ new)) ⊎ (o ≡ w)

  pub back : (l : List A) (id : ℕ) (v new : A) → get_elem? l id ≡ some v → (i : ℕ) (w : A) →
      get_elem? (set l id new) i ≡ some w → (o : A) × (get_elem? l i ≡ some o) × Turned v new o w
  back l id v new at i w e =
      ⊎_elim (λ t. (v, subst (λ k. get_elem? l k ≡ some v) (sym t.0) at, inl (refl, sym t.1))) (λ t. (w, t.1, inr refl))
      (at_set l id i new w e)

  pub forth : (l : List A) (id : ℕ) (v new : A) → get_elem? l id ≡ some v → (i : ℕ) (o : A) → get_elem? l i ≡ some o →
      (w : A) × (get_elem? (set l id new) i ≡ some w) × Turned v new o w
  forth l id v new at i o e =
      dite (ℕ_discrete i id)
      (λ p. (
        new,
        subst (λ k. get_elem? (set l id new) k ≡ some new) (sym p) (set_here l id v new at),
        inl (some-injective o v (sym e ∙ subst (λ k. get_elem? l k ≡ some v) (sym p) at), refl),
      ))
      (λ n. (o, set_else l id i new o n e, inr refl))

  pub at_longer : (l : List A) (a b : A) (j : ℕ) → get_elem? l j ≡ some b → get_elem? (l ++ a ∷ []) j ≡ some b
  at_longer [] a b j e = absurd (some-ne-none b (sym e))
  at_longer (x ∷ xs) a b zero e = e
  at_longer (x ∷ xs) a b (suc j) e = at_longer xs a b j e

  pub in_longer : (l : List A) (a b : A) → In b l → In b (l ++ a ∷ [])
  in_longer l a b g = (g.0, at_longer l a b g.0 g.1)

  pub in_last : (l : List A) (a : A) → In a (l ++ a ∷ [])
  in_last [] a = (0, refl)
  in_last (x ∷ xs) a = let r = in_last xs a in (suc r.0, r.1)

pub by_bool : {X : Type 0} (b : Bool) → (b ≡ true → X) → (b ≡ false → X) → X
by_bool true f g = f refl
by_bool false f g = g refl

pub clash : {X : Type 0} {b : Bool} → b ≡ true → b ≡ false → X
clash p q = absurd (let k : true ≡ false = sym p ∙ q in cc)

pub not_true : (b : Bool) → (b ≡ true → ⊥) → b ≡ false
not_true true f = absurd (f refl)
not_true false f = refl

pub in_range : {A : Type 0} (l : List A) (i : ℕ) (x : A) → get_elem? l i ≡ some x → i < length l
in_range [] i x e = absurd (some-ne-none x (sym e))
in_range (y ∷ ys) zero x e = omega arith
in_range (y ∷ ys) (suc i) x e = (let h = in_range ys i x e in omega arith)
