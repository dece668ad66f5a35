-- Properties of all elements of a list, and of one more element.
use Rattle.std.proofs.Common.{◌≡◌, All, ℕ, zero, suc, ◌<◌, length, List, [], ◌∷◌, ◌++◌, slice_index_or, sym, subst}
use Rattle.std.proofs.Common.{arith}

all_cons : {A : Type 0} (P : A → Type 0) (x : A) (xs : List A) → P x → All P xs → (k : ℕ) (d : A) →
    k < length (x ∷ xs) → P (slice_index_or (x ∷ xs) k d)
all_cons P x xs p h zero d less = p
all_cons P x xs p h (suc k) d less = h k d (omega (arith, less))

all_last : {A : Type 0} (P : A → Type 0) (xs : List A) (x : A) → All P xs → P x → All P (xs ++ (x ∷ []))
all_last P [] x h p = all_cons P x [] p h
all_last P (y ∷ xs) x h p = all_cons P y (xs ++ (x ∷ [])) (h 0 y (omega arith))
    (all_last P xs x (λ k d l. h (suc k) d (omega (arith, l))) p)

-- one more element
pub all_more : {A : Type 0} (P : A → Type 0) (xs ys : List A) (x : A) → ys ≡ xs ++ (x ∷ []) → All P xs → P x → All P ys
all_more P xs ys x e h p = subst (λ (l : List _). All P l) (sym e) (all_last P xs x h p)
