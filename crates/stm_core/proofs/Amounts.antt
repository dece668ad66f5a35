-- Lists of different numbers of a kind.
use Rattle.std.proofs.Common.{◌≡◌, ℕ, zero, suc, ◌+◌, List, [], ◌∷◌, length, map, refl}
use Rattle.std.proofs.Common.{sym, ap, subst, arith}
use mathlib.Core.Option.{some, some-injective, some-ne-none}
use Rattle.tx_memory.specs.Image.{In}
use Rattle.stm_core.specs.Causes.{AreDistinct, AtLeast}

-- a kind of a list with one element more
pub in_more : (Q : ℕ → Type 0) (x : ℕ) (xs : List ℕ) → Q x → ((n : ℕ) → In n xs → Q n) → (n : ℕ) → In n (x ∷ xs) → Q n
in_more Q x xs here rest n (zero, e) = subst Q (some-injective x n e) here
in_more Q x xs here rest n (suc j, e) = rest n (j, e)

-- numbers of a kind are of a wider kind
pub at_least_so : (count : ℕ) (P Q : ℕ → Type 0) → ((n : ℕ) → P n → Q n) → AtLeast count P → AtLeast count Q
at_least_so count P Q f q = (q.0, q.1, q.2, λ n i. f n (q.3 n i))

-- one number more, which is not of the kind before
pub at_least_more : (count n : ℕ) (P Q : ℕ → Type 0) → ((m : ℕ) → P m → Q m) → (P n → ⊥) → Q n → AtLeast count P →
    AtLeast (count + 1) Q
at_least_more count n P Q f fresh here q = (
  n ∷ q.0,
  (let z = q.1 in omega (arith, z)),
  ((λ i. fresh (q.3 n i)), q.2),
  in_more Q n q.0 here (λ m i. f m (q.3 m i)),
)

in_map : (f : ℕ → ℕ) (xs : List ℕ) (x : ℕ) → In x xs → In (f x) (map f xs)
in_map f [] x m = absurd (some-ne-none x (sym m.1))
in_map f (y ∷ xs) x (zero, e) = (zero, ap some (ap f (some-injective y x e)))
in_map f (y ∷ xs) x (suc j, e) = let q = in_map f xs x (j, e) in (suc q.0, q.1)

-- numbers whose images are different are different
apart : (f : ℕ → ℕ) (xs : List ℕ) → AreDistinct (map f xs) → AreDistinct xs
apart f [] d = tt
apart f (x ∷ xs) d = ((λ m. d.0 (in_map f xs x m)), apart f xs d.1)

-- if each number of one kind is the image of a number of another, there are as many of the other
module _ (P Q : ℕ → Type 0) (f : ℕ → ℕ) (back : (a : ℕ) → P a → (n : ℕ) × Q n × (f n ≡ a)) where
  pick : (xs : List ℕ) → ((a : ℕ) → In a xs → P a) → (ns : List ℕ) × (length ns ≡ length xs) × (map f ns ≡ xs) ×
      ((n : ℕ) → In n ns → Q n)
  pick [] h = ([], refl, refl, λ n m. absurd (some-ne-none n (sym m.1)))
  pick (a ∷ xs) h =
      let q = back a (h a (0, refl)) in
      let r = pick xs (λ b m. h b (suc m.0, m.1)) in (
        q.0 ∷ r.0,
        ap suc r.1,
        (λ i. q.2 i ∷ r.2 i),
        in_more Q q.0 r.0 q.1 r.3,
      )

  pub at_least_from : (count : ℕ) → AtLeast count P → AtLeast count Q
  at_least_from count q =
      let r = pick q.0 q.3 in
      (r.0, (let a = r.1 in let b = q.1 in omega (arith, a, b)), apart f r.0 (subst AreDistinct (sym r.2) q.2), r.3)
