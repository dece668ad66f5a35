-- Finite maps as lists of pairs: the reads of a memory as pairs, and pairs written to an image.
use Rattle.std.proofs.Common.{◌≡◌, ◌⊎◌, inl, inr, ℕ, ◌<◌, ◌&&◌, zero, suc, List, [], ◌∷◌, ◌++◌, length, Option, Some, None, T, true, false, Bool, slice_index, slice_set, unwrap_or, refl, sym, ap, subst, ◌∙◌, arith, get_or-set_same, get_or-set_other, length-set}
use Rattle.std.specs.FinMap.{get, insert, empty, entries, entries_sorted, find, is_sorted, get-empty, get-entries}
use Rattle.std.specs.FinMap.Entries.{below_all}
use Rattle.std.specs.Ordering.{nat_cmp, eq_by_cmp, is_lt}
use Rattle.std.proofs.lemmas.Bool.Decides.{nat_tests}
use mathlib.Core.Option.{some}
use Rattle.tx_memory.specs.Image.{In, Has, Agrees, laid}
use Rattle.tx_memory.specs.View.{Words, memory}
use Rattle.tx_memory.specs.Pairs.{with_pairs, map_of}
use Rattle.tx_memory.specs.Seen.{same_or, get_here, get_other}

-- appending a pair to the list is an insertion into the map
pub with_pairs-append : (m : Words) (ps : List (ℕ × ℕ)) (a v : ℕ) →
    with_pairs m (ps ++ (a, v) ∷ []) ≡ insert (with_pairs m ps) a v
with_pairs-append m [] a v = refl
with_pairs-append m (p ∷ ps) a v = with_pairs-append (insert m p.0 p.1) ps a v

-- a member of a list is a member of the list with one more element in front
pub in_later : {A : Type 0} (x y : A) (xs : List A) → In x xs → In x (y ∷ xs)
in_later x y xs i = (suc i.0, i.1)

same_pair : (p : ℕ × ℕ) (a v : ℕ) → p.0 ≡ a → p.1 ≡ v → p ≡ (a, v)
same_pair p a v e f = λ i. (e i, f i)

-- a value of a map with pairs is a value of the map or of one of the pairs
pub get-with_pairs : (m : Words) (ps : List (ℕ × ℕ)) (a v : ℕ) →
    get (with_pairs m ps) a ≡ Some v → (get m a ≡ Some v) ⊎ In (a, v) ps
get-with_pairs m [] a v e = inl e
get-with_pairs m (p ∷ ps) a v e =
    elim (get-with_pairs (insert m p.0 p.1) ps a v e) [
      | inl put ↦ elim (same_or a p.0) [
        | inl here ↦ (
            let there : get (insert m p.0 p.1) p.0 ≡ Some v =
            subst (λ (b : ℕ). get (insert m p.0 p.1) b ≡ Some v) here put in
            let value : p.1 ≡ v =
            ap (λ (o : Option ℕ). unwrap_or o 0) (sym (get_here m p.0 p.1) ∙ there) in
            inr (zero, ap some (same_pair p a v (sym here) value)))
        | inr else ↦ inl (sym (get_other m p.0 p.1 a else) ∙ put)
      ]
      | inr later ↦ inr (in_later _ _ _ later)
    ]

not_both : {A : Type 0} {x : A} → None ≡ Some x → ⊥
not_both e = cc

-- an image that agrees with the pairs agrees with the map of the pairs
pub agrees-map_of : (image : List ℕ) (ps : List (ℕ × ℕ)) → Agrees image ps → (a v : ℕ) →
    get (map_of ps) a ≡ Some v → Has image a v
agrees-map_of image ps h a v e =
    elim (get-with_pairs empty ps a v e) [
      | inl none ↦ absurd (not_both (sym (get-empty nat_cmp a) ∙ none))
      | inr stands ↦ h a v stands
    ]

first : (a b : Bool) → T (a && b) → T a
first true b p = tt
first false b p = p

second : (a b : Bool) → T (a && b) → T b
second true b p = p
second false b p = absurd p

-- if all keys of a list are above x, no key of the list is x
none_below : (x : ℕ) (es : List (ℕ × ℕ)) → T (below_all nat_cmp x es) → find nat_cmp x es ≡ None
none_below x [] h = refl
none_below x (e ∷ es) h =
    let less : T (is_lt (nat_cmp x e.0)) = first _ _ h in
    let t : eq_by_cmp nat_cmp x e.0 ≡ false = grind (arith, nat_tests) in
    rw t (none_below x es (second _ _ h))

laid-find : (es : List (ℕ × ℕ)) (image : List ℕ) (a : ℕ) → T (is_sorted nat_cmp es) →
    a < length image →
    slice_index (laid image es) a ≡ unwrap_or (find nat_cmp a es) (slice_index image a)
laid-find [] image a h l = refl
laid-find (e ∷ es) image a h l =
    let n = length-set image e.0 e.1 in
    let inside : a < length (slice_set image e.0 e.1) = omega (arith, n) in
    let rest : slice_index (laid (slice_set image e.0 e.1) es) a
    ≡ unwrap_or (find nat_cmp a es) (slice_index (slice_set image e.0 e.1) a) =
    laid-find es (slice_set image e.0 e.1) a (second _ _ h) inside in
    elim (same_or a e.0) [
      | inl q ↦ (
          let t : eq_by_cmp nat_cmp a e.0 ≡ true = grind (arith, nat_tests) in
          let none : find nat_cmp a es ≡ None = rw q (none_below e.0 es (first _ _ h)) in
          let set_here : slice_index (slice_set image e.0 e.1) a ≡ e.1 =
          rw q (get_or-set_same image e.0 e.1 0 (omega arith)) in
          rest
          ∙ ap (λ (o : Option ℕ). unwrap_or o (slice_index (slice_set image e.0 e.1) a)) none
          ∙ set_here ∙ sym (rw t refl))
      | inr ne ↦ (
          let t : eq_by_cmp nat_cmp a e.0 ≡ false = grind (arith, nat_tests) in
          let other : slice_index (slice_set image e.0 e.1) a ≡ slice_index image a =
          get_or-set_other image e.0 a e.1 0 ne in
          rest ∙ ap (unwrap_or (find nat_cmp a es)) other ∙ sym (rw t refl))
    ]

-- writing the pairs of a map to an image gives the memory of both
pub laid-entries : (writes : Words) (image : List ℕ) (a : ℕ) → a < length image →
    slice_index (laid image (entries writes)) a ≡ memory image writes a
laid-entries writes image a l =
    laid-find (entries writes) image a (entries_sorted writes) l
    ∙ ap (λ (o : Option ℕ). unwrap_or o (slice_index image a)) (sym (get-entries writes a))

-- writing pairs to an image does not change its length
pub length-laid : (image : List ℕ) (ps : List (ℕ × ℕ)) → length (laid image ps) ≡ length image
length-laid image [] = refl
length-laid image (p ∷ ps) =
    length-laid (slice_set image p.0 p.1) ps ∙ length-set image p.0 p.1
