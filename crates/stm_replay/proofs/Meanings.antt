-- The meaning of tests over lists of pairs.
use Rattle.std.proofs.Common.{◌≡◌, ℕ, Bool, true, false, cond, ◌==◌, ◌||◌, not, List, [], ◌∷◌, refl, ap}
use Rattle.std.specs.List.{list_any, filter}
use Rattle.stm_core.specs.Client.{writes_to, without}

pub named : (l : List (ℕ × ℕ)) (k : ℕ) → list_any (λ p. p.0 == k) l ≡ writes_to l k
named [] k = refl
named (p ∷ ps) k = ap (λ b. (p.0 == k) || b) (named ps k)

pub filtered : (l : List (ℕ × ℕ)) (k : ℕ) → filter (λ (p : ℕ × ℕ). not (p.0 == k)) l ≡ without l k
filtered [] k = refl
filtered (p ∷ ps) k = go (p.0 == k) (filtered ps k)
  where
    go : (b : Bool) → filter (λ (q : ℕ × ℕ). not (q.0 == k)) ps ≡ without ps k →
        cond (not b) (p ∷ filter (λ (q : ℕ × ℕ). not (q.0 == k)) ps)
        (filter (λ (q : ℕ × ℕ). not (q.0 == k)) ps) ≡ cond b (without ps k) (p ∷ without ps k)
    go true e = e
    go false e = ap (λ l. p ∷ l) e
