-- Counts of the elements of a list that pass a test.
use Rattle.std.proofs.Common.{◌≡◌, ℕ, suc, zero, ◌+◌, ◌<◌, ◌≤◌, Bool, true, false, cond, List, [], ◌∷◌, length, map}
use Rattle.std.proofs.Common.{get_or}
use Rattle.std.proofs.Common.{refl, sym, ap, ◌∙◌, arith}
use Rattle.std.specs.List.{count_by}
use Rattle.std.specs.List.Sorted.{IsPermutation}
use Rattle.std.proofs.lemmas.List.Sums.{sum_by-cons}
use Rattle.std.proofs.lemmas.List.Sorted.{sum_by-IsPermutation}

pub count_cons : {X : Type 0} (p : X → Bool) (x : X) (xs : List X) →
    count_by p (x ∷ xs) ≡ cond (p x) 1 0 + count_by p xs
count_cons p x xs = sum_by-cons (λ y. cond (p y) 1 0) x xs

-- a count over another form of the elements
pub count_map : {A X : Type 0} (f : A → X) (p : X → Bool) (xs : List A) →
    count_by p (map f xs) ≡ count_by (λ x. p (f x)) xs
count_map f p [] = refl
count_map f p (x ∷ xs) =
    count_cons p (f x) (map f xs)
    ∙ ap (λ n. cond (p (f x)) 1 0 + n) (count_map f p xs)
    ∙ sym (count_cons (λ y. p (f y)) x xs)

added : (a b c i j k x y z : ℕ) → a ≡ i + x → b ≡ j + y → c ≡ k + z → i ≡ j + k → x ≡ y + z → a ≡ b + c
added a b c i j k x y z e f g h l = omega arith

-- each element that passes one test passes exactly one of two others
pub count_splits : {X : Type 0} (p q r : X → Bool) →
    ((x : X) → cond (p x) 1 0 ≡ cond (q x) 1 0 + cond (r x) 1 0) → (xs : List X) →
    count_by p xs ≡ count_by q xs + count_by r xs
count_splits p q r h [] = refl
count_splits p q r h (x ∷ xs) =
    added (count_by p (x ∷ xs)) (count_by q (x ∷ xs)) (count_by r (x ∷ xs)) (cond (p x) 1 0) (cond (q x) 1 0)
    (cond (r x) 1 0) (count_by p xs) (count_by q xs) (count_by r xs) (count_cons p x xs) (count_cons q x xs)
    (count_cons r x xs) (h x) (count_splits p q r h xs)

one_less : (a n : ℕ) → a ≡ 0 + n → n ≡ 0 → a ≡ 0
one_less a n e f = omega arith

one_more : (a n i : ℕ) → a ≡ 1 + n → n ≡ i → a ≡ suc i
one_more a n i e f = omega arith

-- no element passes
pub count_none : {X : Type 0} (p : X → Bool) (xs : List X) →
    ((k : ℕ) (d : X) → k < length xs → p (get_or xs k d) ≡ false) → count_by p xs ≡ 0
count_none p [] fail = refl
count_none p (x ∷ xs) fail =
    one_less (count_by p (x ∷ xs)) (count_by p xs)
    (count_cons p x xs ∙ ap (λ b. cond b 1 0 + count_by p xs) (fail 0 x (omega arith)))
    (count_none p xs (λ k d h. fail (suc k) d (omega arith)))

-- the first elements pass, and no other
pub count_parted : {X : Type 0} (p : X → Bool) (xs : List X) (i : ℕ) → i ≤ length xs →
    ((k : ℕ) (d : X) → k < i → p (get_or xs k d) ≡ true) →
    ((k : ℕ) (d : X) → i ≤ k → k < length xs → p (get_or xs k d) ≡ false) → count_by p xs ≡ i
count_parted p [] i l pass fail = omega arith
count_parted p (x ∷ xs) zero l pass fail = count_none p (x ∷ xs) (λ k d h. fail k d (omega arith) h)
count_parted p (x ∷ xs) (suc i) l pass fail =
    let rest : count_by p xs ≡ i = count_parted p xs i (omega arith) (λ k d h. pass (suc k) d (omega arith))
    (λ k d a b. fail (suc k) d (omega arith) (omega arith)) in
    one_more (count_by p (x ∷ xs)) (count_by p xs) i
    (count_cons p x xs ∙ ap (λ b. cond b 1 0 + count_by p xs) (pass 0 x (omega arith))) rest

-- another order changes no count
pub count_permuted : {X : Type 0} (p : X → Bool) (xs ys : List X) → IsPermutation xs ys → count_by p ys ≡ count_by p xs
count_permuted p xs ys h = sum_by-IsPermutation (λ x. cond (p x) 1 0) xs ys h
