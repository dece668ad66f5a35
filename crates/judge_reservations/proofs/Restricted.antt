-- Functions that have the values of another at some keys, and a default at all other keys.
use Rattle.std.proofs.Common.{◌≡◌, ◌⊎◌, Bool, true, false, cond, refl, ap, sym, subst, ◌∙◌, inl, inr}

module _ {K V : Type 0} (has : K → Bool) (d : V) where
  -- the second function has the values of the first one at the keys that pass the test
  abbrev pub Restricts : (K → V) → (K → V) → Type 0
  Restricts f g = (q : K) → g q ≡ cond (has q) (f q) d

-- a function after its value at a key was set
pub record Sets {K V : Type 0} (f f' : K → V) (k : K) (v : V) : Type 0 where
  pub here : f' k ≡ v
  pub elsewhere : (q : K) → (q ≡ k → ⊥) → f' q ≡ f q

module _ {K V : Type 0} (has : K → Bool) (d : V) (f f' g g' : K → V) (k : K) (v : V)
    (either : (q : K) → (q ≡ k) ⊎ (q ≡ k → ⊥)) where
  -- a key that passes is set in both
  pub set_both : has k ≡ true → Restricts has d f g → Sets f f' k v → Sets g g' k v → Restricts has d f' g'
  set_both e r left right q = elim (either q) [
    | inl is ↦ subst (λ x. g' x ≡ cond (has x) (f' x) d) (sym is)
        (right.here ∙ sym (ap (λ b. cond b (f' k) d) e ∙ left.here))
    | inr apart ↦ right.elsewhere q apart ∙ r q ∙ ap (λ x. cond (has q) x d) (sym (left.elsewhere q apart))
  ]

  -- a key that does not pass is set in the first one
  pub set_out : has k ≡ false → Restricts has d f g → Sets f f' k v → Restricts has d f' g
  set_out e r left q = elim (either q) [
    | inl is ↦ subst (λ x. g x ≡ cond (has x) (f' x) d) (sym is)
        (r k ∙ ap (λ b. cond b (f k) d) e ∙ sym (ap (λ b. cond b (f' k) d) e))
    | inr apart ↦ r q ∙ ap (λ x. cond (has q) x d) (sym (left.elsewhere q apart))
  ]

module _ {K V : Type 0} (has : K → Bool) (d : V) where
  pub same_left : (f f' g : K → V) → ((q : K) → f' q ≡ f q) → Restricts has d f g → Restricts has d f' g
  same_left f f' g same r q = r q ∙ ap (λ x. cond (has q) x d) (sym (same q))

  pub same_right : (f g g' : K → V) → ((q : K) → g' q ≡ g q) → Restricts has d f g → Restricts has d f g'
  same_right f g g' same r q = same q ∙ r q

pub both_default : {V : Type 0} (d : V) (b : Bool) → d ≡ cond b d d
both_default d true = refl
both_default d false = refl
