-- Texts that extend others, and texts cut at their end.
use Rattle.std.proofs.Common.{◌≡◌, ℕ, List, [], ◌∷◌, ◌++◌, length, take, refl, arith, ap, sym, ◌∙◌, Result, Ok, Err}
use Rattle.std.proofs.Common.{OnErr, min, drop, ◌-◌, length-drop}
use Rattle.std.proofs.Common.{inl, inr}
use Rattle.std.proofs.lemmas.List.{take_all, take-append-drop}
use Rattle.std.proofs.lemmas.Bool.{cases_lt}
use Rattle.vac_lines.specs.Text.{Extends}

take_front : (xs zs : List ℕ) → take (length xs) (xs ++ zs) ≡ xs
take_front [] zs = refl
take_front (x ∷ xs) zs = ap (λ t. x ∷ t) (take_front xs zs)

front_taken : (xs zs ws : List ℕ) → take (length (xs ++ zs)) ws ≡ xs ++ zs → take (length xs) ws ≡ xs
front_taken [] zs ws h = refl
front_taken (x ∷ xs) zs [] h = cc
front_taken (x ∷ xs) zs (w ∷ ws) h =
    let head : w ≡ x = cc in
    let tail : take (length (xs ++ zs)) ws ≡ xs ++ zs = cc in
    cc (front_taken xs zs ws tail, head)

-- a list that extends a longer list extends the front of that list
extends_front : (xs ys zs ws : List ℕ) → ys ≡ xs ++ zs → Extends ys ws → Extends xs ws
extends_front xs ys zs ws e h = front_taken xs zs ws (rw e at h)

-- a list extends its front
pub extends_more : (xs ys zs : List ℕ) → ys ≡ xs ++ zs → Extends xs ys
extends_more xs ys zs e = rw e (take_front xs zs)

-- a fact that holds if a call failed
pub on_err : {T E P : Type 0} (r : Result T E) → P → OnErr r P
on_err (Ok t) p = tt
on_err (Err e) p = p

-- a front that is cut at the end of the list, or before
pub take_least : {X : Type 0} (n k : ℕ) (xs : List X) → k ≡ min n (length xs) → take k xs ≡ take n xs
take_least n k xs e =
    elim (cases_lt n (length xs)) [
      | inl h ↦ let same : k ≡ n = omega arith in ap (λ i. take i xs) same
      | inr h ↦ take_all k xs (omega arith) ∙ sym (take_all n xs (omega arith))
    ]

-- the rest of a list, cut at its end
pub taken_end : (xs : List ℕ) (i : ℕ) → take (length xs - i) (drop i xs) ≡ drop i xs
taken_end xs i = let len = length-drop i xs in take_all (length xs - i) (drop i xs) (omega arith)

-- a list with more appended still extends
pub extends_longer : (xs ys zs : List ℕ) → Extends xs ys → Extends xs (ys ++ zs)
extends_longer xs ys zs h = extends_front xs ys (drop (length xs) ys) (ys ++ zs)
    (sym (ap (λ t. t ++ drop (length xs) ys) (sym h) ∙ take-append-drop (length xs) ys))
    (extends_more ys (ys ++ zs) zs refl)
