-- Sums over lists of clients.
use Rattle.std.proofs.Common.{◌≡◌, ◌≢◌, ℕ, zero, suc, ◌+◌, ◌≤◌, cond, false, List, [], ◌∷◌, ◌++◌, set, sum_by, refl}
use Rattle.std.proofs.Common.{sym, ap, arith}
use mathlib.Core.Option.{some, some-injective, some-ne-none}
use lib.ListN.{get_elem?}
use Rattle.std.proofs.lemmas.List.Sums.{sum_by-cons}
use Rattle.stm_core.specs.Client.{Client}
use Rattle.stm_core.specs.Invariant.{share}

pub sum_set : {A : Type 0} (f : A → ℕ) (l : List A) (i : ℕ) (v a : A) → get_elem? l i ≡ some v →
    sum_by f (set l i a) + f v ≡ sum_by f l + f a
sum_set f [] i v a e = absurd (some-ne-none v (sym e))
sum_set f (x ∷ xs) zero v a e = let h : f x ≡ f v = ap f (some-injective x v e) in
    rw (sum_by-cons f a xs, sum_by-cons f x xs) (omega arith)
sum_set f (x ∷ xs) (suc i) v a e = let h : sum_by f (set xs i a) + f v ≡ sum_by f xs + f a = sum_set f xs i v a e in
    rw (sum_by-cons f x (set xs i a), sum_by-cons f x xs) (omega arith)

pub sum_snoc : {A : Type 0} (f : A → ℕ) (l : List A) (a : A) → sum_by f (l ++ a ∷ []) ≡ sum_by f l + f a
sum_snoc f [] a = rw (sum_by-cons f a []) (omega arith)
sum_snoc f (x ∷ xs) a = let h = sum_snoc f xs a in rw (sum_by-cons f x (xs ++ a ∷ []), sum_by-cons f x xs) (omega arith)

pub one_of_sum : {A : Type 0} (f : A → ℕ) (l : List A) (i : ℕ) (v : A) → get_elem? l i ≡ some v → f v ≤ sum_by f l
one_of_sum f [] i v e = absurd (some-ne-none v (sym e))
one_of_sum f (x ∷ xs) zero v e = let h : f x ≡ f v = ap f (some-injective x v e) in
    rw (sum_by-cons f x xs) (omega arith)
one_of_sum f (x ∷ xs) (suc i) v e = let h = one_of_sum f xs i v e in rw (sum_by-cons f x xs) (omega arith)

pub two_of_sum : {A : Type 0} (f : A → ℕ) (l : List A) (i j : ℕ) (v w : A) → i ≢ j → get_elem? l i ≡ some v →
    get_elem? l j ≡ some w → f v + f w ≤ sum_by f l
two_of_sum f [] i j v w n e k = absurd (some-ne-none v (sym e))
two_of_sum f (x ∷ xs) zero zero v w n e k = absurd (n refl)
two_of_sum f (x ∷ xs) zero (suc j) v w n e k = let h : f x ≡ f v = ap f (some-injective x v e) in let p =
    one_of_sum f xs j w k in rw (sum_by-cons f x xs) (omega arith)
two_of_sum f (x ∷ xs) (suc i) zero v w n e k = let h : f x ≡ f w = ap f (some-injective x w k) in let p =
    one_of_sum f xs i v e in rw (sum_by-cons f x xs) (omega arith)
two_of_sum f (x ∷ xs) (suc i) (suc j) v w n e k = let p = two_of_sum f xs i j v w (λ q. n (ap suc q)) e k in
    rw (sum_by-cons f x xs) (omega arith)

pub share_of : (v : Client) → v.is_gathered ≡ false → share v ≡ v.grants + 1
share_of v e = ap (λ b. cond b 0 (v.grants + 1)) e
