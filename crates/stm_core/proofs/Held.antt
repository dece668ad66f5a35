-- Lists of held locks, and the last step of a client.
use Rattle.std.proofs.Common.{◌≡◌, ◌≢◌, ℕ, suc, ◌⊎◌, ⊎_elim, Bool, true, false, cond, eqb, ◌||◌, List, [], ◌∷◌, refl}
use Rattle.std.proofs.Common.{sym, ap, ◌∙◌, subst, arith, eq-eqb}
use mathlib.Core.Option.{some}
use Rattle.std.proofs.lemmas.Bool.Decides.{nat_tests}
use Rattle.tx_memory.specs.Image.{In}
use Rattle.stm_core.specs.Client.{writes_to, without, old_version}
use Rattle.stm_core.proofs.Lists.{clash, nothing_in}
use Rattle.stm_core.proofs.Orders.{in_cons}
use Rattle.stm_core.proofs.Releasing.{Drops}

-- the pair of a held lock is in the list
pub old_in : (held : List (ℕ × ℕ)) (k : ℕ) → writes_to held k ≡ true → In (k, old_version held k) held
old_in [] k e = clash e refl
old_in (p ∷ ps) k e = go (eqb p.0 k) refl (λ h. old_in ps k h)
  where
    go : (b : Bool) → eqb p.0 k ≡ b → (writes_to ps k ≡ true → In (k, old_version ps k) ps) →
        In (k, cond (eqb p.0 k) p.1 (old_version ps k)) (p ∷ ps)
    go true h f = (
      0,
      ap some (λ i. (
        let s : p.0 ≡ k = grind (arith, nat_tests) in
            s i,
        let q : p.1 ≡ cond (eqb p.0 k) p.1 (old_version ps k) = rw h refl in q i,
      )),
    )
    go false h f = rw h (let q = f (let e' : (false || writes_to ps k) ≡ true =
        subst (λ b. (b || writes_to ps k) ≡ true) h e in e') in (suc q.0, q.1))

pub held_has : (held : List (ℕ × ℕ)) (k u : ℕ) → In (k, u) held → writes_to held k ≡ true
held_has held k u i = Rattle.stm_core.proofs.Stories.is_written held k u i.0 i.1

pub drops : (held : List (ℕ × ℕ)) (k : ℕ) → Drops held (without held k) k
drops held k = record { fewer = λ j t i. fewer held j t i; rest = λ j t n i. rest held j t n i }
  where
    fewer : (held : List (ℕ × ℕ)) (j t : ℕ) → In (j, t) (without held k) → In (j, t) held × (j ≢ k)
    fewer [] j t i = absurd (nothing_in (j, t) i)
    fewer (p ∷ ps) j t i = go (eqb p.0 k) refl i (λ h. fewer ps j t h)
      where
        go : (b : Bool) → eqb p.0 k ≡ b → In (j, t) (cond b (without ps k) (p ∷ without ps k)) →
            (In (j, t) (without ps k) → In (j, t) ps × (j ≢ k)) → In (j, t) (p ∷ ps) × (j ≢ k)
        go true h m f = let q = f m in ((suc q.0.0, q.0.1), q.1)
        go false h m f = ⊎_elim (λ (e : p ≡ (j, t)). (
          (0, ap some e),
          λ s. (let z : p.0 ≡ j =
              ap (λ (y : ℕ × ℕ). y.0) e in clash (eq-eqb p.0 k (z ∙ s)) h),
        )) (λ m'. let q = f m' in
            ((suc q.0.0, q.0.1), q.1)) (in_cons p (j, t) (without ps k) m)

    rest : (held : List (ℕ × ℕ)) (j t : ℕ) → j ≢ k → In (j, t) held → In (j, t) (without held k)
    rest [] j t n i = absurd (nothing_in (j, t) i)
    rest (p ∷ ps) j t n i = go (eqb p.0 k) refl (in_cons p (j, t) ps i) (λ h. rest ps j t n h)
      where
        go : (b : Bool) → eqb p.0 k ≡ b → (p ≡ (j, t)) ⊎ In (j, t) ps → (In (j, t) ps → In (j, t) (without ps k)) →
            In (j, t) (cond b (without ps k) (p ∷ without ps k))
        go true h m f = ⊎_elim (λ (e : p ≡ (j, t)). absurd (n (let z : p.0 ≡ j = ap (λ (y : ℕ × ℕ). y.0) e in
            sym z ∙ grind (arith, nat_tests)))) (λ m'. f m') m
        go false h m f = ⊎_elim (λ (e : p ≡ (j, t)). (0, ap some e)) (λ m'. let q = f m' in (suc q.0, q.1)) m
