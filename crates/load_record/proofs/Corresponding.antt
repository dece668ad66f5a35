-- Lists whose elements correspond one to one, in any order.
use Rattle.std.proofs.Common.{◌≡◌, ◌∙◌, ◌⊎◌, inl, inr, ◌<◌, ℕ, zero, suc, List, [], ◌∷◌, ◌++◌, length, get_or, set}
use Rattle.std.proofs.Common.{swap}
use Rattle.std.proofs.Common.{refl, sym, ap, subst, arith, append_assoc, IsPermutation}
use Rattle.std.proofs.lemmas.List.Sorted.{IsPermutation-keeps}
use Rattle.std.proofs.lemmas.List.Edits.{swap_is}

-- the elements correspond one to one, in any order, and each two that correspond are related
abbrev pub Correspond : {A B : Type 0} → (A → B → Type 0) → List A → List B → Type 0
Correspond related [] ys = ys ≡ []
Correspond {A} {B} related (x ∷ xs) ys =
    (first : List B) × (y : B) × (more : List B) × (ys ≡ first ++ y ∷ more)
    × related x y × Correspond related xs (first ++ more)

-- ---- what two exchanges of neighbours keep is kept by every permutation

-- an element is put in the place of another
abbrev Put : {X : Type 0} → List X → ℕ → X → X → Type 0
Put {X} ys j d v = (b : List X) × (c : List X) × (ys ≡ b ++ get_or ys j d ∷ c) × (set ys j v ≡ b ++ v ∷ c)

put : {X : Type 0} (ys : List X) (j : ℕ) (d v : X) → j < length ys → Put ys j d v
put [] j d v low = absurd (omega (arith, low))
put (y ∷ ys) zero d v low = ([], ys, refl, refl)
put (y ∷ ys) (suc j) d v low =
    let q = put ys j d v (omega (arith, low)) in
    (y ∷ q.0, q.1, ap (λ l. y ∷ l) q.2, ap (λ l. y ∷ l) q.3)

-- two elements are in each other's place
abbrev Exchanged : {X : Type 0} → List X → List X → Type 0
Exchanged {X} l l' = (a : List X) × (x : X) × (b : List X) × (y : X) × (c : List X)
    × (l ≡ a ++ x ∷ (b ++ y ∷ c)) × (l' ≡ a ++ y ∷ (b ++ x ∷ c))

exchanged : {X : Type 0} (l : List X) (i j : ℕ) (d : X) → i < length l → j < length l →
    (set (set l i (get_or l j d)) j (get_or l i d) ≡ l) ⊎ Exchanged l (set (set l i (get_or l j d)) j (get_or l i d))
exchanged [] i j d p q = absurd (omega (arith, p))
exchanged (x ∷ xs) zero zero d p q = inl refl
exchanged (x ∷ xs) zero (suc j) d p q =
    let k = put xs j d x (omega (arith, q)) in
    inr ([], x, k.0, get_or xs j d, k.1, ap (λ l. x ∷ l) k.2, ap (λ l. get_or xs j d ∷ l) k.3)
exchanged (x ∷ xs) (suc i) zero d p q =
    let k = put xs i d x (omega (arith, p)) in
    inr ([], x, k.0, get_or xs i d, k.1, ap (λ l. x ∷ l) k.2, ap (λ l. get_or xs i d ∷ l) k.3)
exchanged (x ∷ xs) (suc i) (suc j) d p q = elim (exchanged xs i j d (omega (arith, p)) (omega (arith, q))) [
  | inl e ↦ inl (ap (λ l. x ∷ l) e)
  | inr k ↦ inr (x ∷ k.0, k.1, k.2, k.3, k.4, ap (λ l. x ∷ l) k.5, ap (λ l. x ∷ l) k.6)
]

module _ {X S : Type 0} (Q : List X → S → Type 0)
    (under : (x : X) (t t' : List X) → ((s : S) → Q t s → Q t' s) → (s : S) → Q (x ∷ t) s → Q (x ∷ t') s)
    (flip : (x y : X) (t : List X) (s : S) → Q (x ∷ y ∷ t) s → Q (y ∷ x ∷ t) s) where
  beneath : (a t t' : List X) → ((s : S) → Q t s → Q t' s) → (s : S) → Q (a ++ t) s → Q (a ++ t') s
  beneath [] t t' h s q = h s q
  beneath (x ∷ a) t t' h s q = under x (a ++ t) (a ++ t') (beneath a t t' h) s q

  pub to_front : (a : List X) (x : X) (b : List X) (s : S) → Q (a ++ x ∷ b) s → Q (x ∷ (a ++ b)) s
  to_front [] x b s q = q
  to_front (y ∷ a) x b s q =
      flip y x (a ++ b) s (under y (a ++ x ∷ b) (x ∷ (a ++ b)) (to_front a x b) s q)

  pub from_front : (a : List X) (x : X) (b : List X) (s : S) → Q (x ∷ (a ++ b)) s → Q (a ++ x ∷ b) s
  from_front [] x b s q = q
  from_front (y ∷ a) x b s q =
      under y (x ∷ (a ++ b)) (a ++ x ∷ b) (from_front a x b) s (flip x y (a ++ b) s q)

  across : (x : X) (b : List X) (y : X) (c : List X) (s : S) → Q (x ∷ (b ++ y ∷ c)) s → Q (y ∷ (b ++ x ∷ c)) s
  across x b y c s q = under y (x ∷ (b ++ c)) (b ++ x ∷ c) (from_front b x c) s (to_front (x ∷ b) y c s q)

  step : (l : List X) (i j : ℕ) → i < length l → j < length l → (s : S) → Q l s → Q (swap l i j) s
  step [] i j p q s h = absurd (omega (arith, p))
  step (d ∷ ys) i j p q s h = subst (λ (l : List X). Q l s) (swap_is (d ∷ ys) i j d p q)
      (elim (exchanged (d ∷ ys) i j d p q) [
        | inl e ↦ subst (λ (l : List X). Q l s) (sym e) h
        | inr k ↦ subst (λ (l : List X). Q l s) (sym k.6)
            (beneath k.0 (k.1 ∷ (k.2 ++ k.3 ∷ k.4)) (k.3 ∷ (k.2 ++ k.1 ∷ k.4)) (across k.1 k.2 k.3 k.4) s
            (subst (λ (l : List X). Q l s) k.5 h))
      ])

  pub permuted : (xs ys : List X) (s : S) → IsPermutation xs ys → Q xs s → Q ys s
  permuted xs ys s p q =
      IsPermutation-keeps xs (λ l. Q l s) q (λ l i j a b h. step l i j a b s h) ys p

-- ---- corresponding lists

pub heads : {X : Type 0} (x y : X) (xs ys : List X) → x ∷ xs ≡ y ∷ ys → (x ≡ y) × (xs ≡ ys)
heads x y xs ys e = (cc, cc)

-- an element of two lists, one behind the other, stands in the first or in the second
abbrev Stands : {X : Type 0} → List X → List X → List X → X → List X → Type 0
Stands {X} f m g r n = ((k : List X) × (f ≡ g ++ r ∷ k) × (n ≡ k ++ m)) ⊎
    ((k : List X) × (g ≡ f ++ k) × (m ≡ k ++ r ∷ n))

stands : {X : Type 0} (f m g n : List X) (r : X) → f ++ m ≡ g ++ r ∷ n → Stands f m g r n
stands [] m g n r e = inr (g, refl, e)
stands (x ∷ f) m [] n r e =
    let h = heads x r (f ++ m) n e in
    inl (f, ap (λ y. y ∷ f) h.0, sym h.1)
stands (x ∷ f) m (y ∷ g) n r e =
    let h = heads x y (f ++ m) (g ++ r ∷ n) e in
    elim (stands f m g n r h.1) [
      | inl k ↦ inl (k.0, ap (λ l. x ∷ l) k.1 ∙ ap (λ z. z ∷ (g ++ r ∷ k.0)) h.0, k.2)
      | inr k ↦ inr (k.0, ap (λ l. y ∷ l) k.1 ∙ ap (λ z. z ∷ (f ++ k.0)) (sym h.0), k.2)
    ]

module _ {A B : Type 0} (R : A → B → Type 0) where
  pub under : (x : A) (t t' : List A) → ((s : List B) → Correspond R t s → Correspond R t' s) → (s : List B) →
      Correspond R (x ∷ t) s → Correspond R (x ∷ t') s
  under x t t' h s q = (q.0, q.1, q.2, q.3, q.4, h (q.0 ++ q.2) q.5)

  pub flip : (x y : A) (t : List A) (s : List B) → Correspond R (x ∷ y ∷ t) s → Correspond R (y ∷ x ∷ t) s
  flip x y t s q =
      let f = q.0 in
      let m = q.2 in
      let h = q.5 in
      elim (stands f m h.0 h.2 h.1 h.3) [
        | inl k ↦ (
          h.0,
          h.1,
          k.0 ++ q.1 ∷ m,
          q.3 ∙ ap (λ l. l ++ q.1 ∷ m) k.1 ∙ append_assoc h.0 (h.1 ∷ k.0) (q.1 ∷ m),
          h.4,
          (
            h.0 ++ k.0,
            q.1,
            m,
            sym (append_assoc h.0 k.0 (q.1 ∷ m)),
            q.4,
            subst (λ (l : List B). Correspond R t l) (ap (λ l. h.0 ++ l) k.2 ∙ sym (append_assoc h.0 k.0 m)) h.5,
          ),
        )
        | inr k ↦ (
          f ++ q.1 ∷ k.0,
          h.1,
          h.2,
          q.3 ∙ ap (λ l. f ++ q.1 ∷ l) k.2 ∙ sym (append_assoc f (q.1 ∷ k.0) (h.1 ∷ h.2)),
          h.4,
          (
            f,
            q.1,
            k.0 ++ h.2,
            append_assoc f (q.1 ∷ k.0) h.2,
            q.4,
            subst (λ (l : List B). Correspond R t l) (ap (λ l. l ++ h.2) k.1 ∙ append_assoc f k.0 h.2) h.5,
          ),
        )
      ]

-- ---- lists with the same elements

abbrev pub Same : {X : Type 0} → List X → List X → Type 0
Same xs ys = Correspond (λ x y. x ≡ y) xs ys

module _ {X : Type 0} where
  pub same_under : (x : X) (t t' : List X) → ((s : List X) → Same t s → Same t' s) → (s : List X) →
      Same (x ∷ t) s → Same (x ∷ t') s
  same_under = under (λ x y. x ≡ y)

  pub same_flip : (x y : X) (t : List X) (s : List X) → Same (x ∷ y ∷ t) s → Same (y ∷ x ∷ t) s
  same_flip = flip (λ x y. x ≡ y)

  same_refl : (xs : List X) → Same xs xs
  same_refl [] = refl
  same_refl (x ∷ xs) = ([], x, xs, refl, refl, same_refl xs)

  same_sym : (xs ys : List X) → Same xs ys → Same ys xs
  same_sym [] ys h = subst (λ (l : List X). Same l []) (sym h) refl
  same_sym (x ∷ xs) ys h =
      subst (λ (l : List X). Same l (x ∷ xs)) (sym h.3)
      (from_front Same same_under same_flip h.0 h.1 h.2 (x ∷ xs)
      ([], x, xs, refl, sym h.4, same_sym xs (h.0 ++ h.2) h.5))

  pub same_of : (xs ys : List X) → IsPermutation xs ys → Same ys xs
  same_of xs ys p = permuted Same same_under same_flip xs ys xs p (same_refl xs)

  cancel_at : (x y : X) (xs ys f b : List X) → x ∷ ys ≡ f ++ y ∷ b → x ≡ y → Same xs (f ++ b) → Same xs ys
  cancel_at x y xs ys [] b e same h =
      subst (λ (l : List X). Same xs l) (sym (heads x y ys b e).1) h
  cancel_at x y xs ys (z ∷ f) b e same h =
      let k = heads x z ys (f ++ y ∷ b) e in
      let back = same_sym xs (z ∷ (f ++ b)) h in
      let there = same_sym (f ++ z ∷ b) xs (from_front Same same_under same_flip f z b xs back) in
      let is : f ++ z ∷ b ≡ ys = ap (λ w. f ++ w ∷ b) (sym k.0 ∙ same) ∙ sym k.1 in
      subst (λ (l : List X). Same xs l) is there

  cancel : (x : X) (xs ys : List X) → Same (x ∷ xs) (x ∷ ys) → Same xs ys
  cancel x xs ys h = cancel_at x h.1 xs ys h.0 h.2 h.3 h.4 h.5

  pub cancel_all : (a xs ys : List X) → Same (a ++ xs) (a ++ ys) → Same xs ys
  cancel_all [] xs ys h = h
  cancel_all (x ∷ a) xs ys h = cancel_all a xs ys (cancel x (a ++ xs) (a ++ ys) h)

-- what holds of a list holds of one with the same elements
module _ {X S : Type 0} (Q : List X → S → Type 0)
    (under : (x : X) (t t' : List X) → ((s : S) → Q t s → Q t' s) → (s : S) → Q (x ∷ t) s → Q (x ∷ t') s)
    (flip : (x y : X) (t : List X) (s : S) → Q (x ∷ y ∷ t) s → Q (y ∷ x ∷ t) s) where
  pub same_keeps : (xs ys : List X) → Same xs ys → (s : S) → Q ys s → Q xs s
  same_keeps [] ys h s q = subst (λ (l : List X). Q l s) h q
  same_keeps (x ∷ xs) ys h s q =
      let front = to_front Q under flip h.0 h.1 h.2 s (subst (λ (l : List X). Q l s) h.3 q) in
      subst (λ (y : X). Q (y ∷ xs) s) (sym h.4)
      (under h.1 (h.0 ++ h.2) xs (same_keeps xs (h.0 ++ h.2) h.5) s front)
