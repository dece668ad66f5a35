-- The orders of two completed calls.
use Rattle.std.proofs.Common.{◌≡◌, ◌⊎◌, ℕ, true, false, List, [], ◌∷◌, ◌++◌, length, refl, sym, ap, ◌∙◌, subst, inl}
use Rattle.std.proofs.Common.{inr}
use Rattle.std.proofs.Common.{arith}
use Rattle.std.specs.Prelude.{All, IsPermutation}
use Rattle.std.proofs.lemmas.List.Sorted.{All-permutation, length_permutation}
use Rattle.std.proofs.lemmas.List.Elements.{All-cons, All-head, All-tail, All-nil}
use Rattle.judge_object.specs.Call.{Call, EachCall, is_completed}
use Rattle.judge_object.proofs.Merges.{cons_same, none_cons}
use Rattle.judge_snapshot.specs.Snapshots.{Transaction, calls_of}
use Rattle.judge_snapshot.proofs.Tests.{false_true}

module _ {O : Type 0} (c d : Call O) (c_ends : is_completed c ≡ true) (d_ends : is_completed d ≡ true) where
  abbrev pub Either : Call O → Type 0
  Either call = (call ≡ c) ⊎ (call ≡ d)

  either_ends : (call : Call O) → Either call → is_completed call ≡ true
  either_ends call (inl e) = ap (λ (x : Call O). is_completed x) e ∙ c_ends
  either_ends call (inr e) = ap (λ (x : Call O). is_completed x) e ∙ d_ends

  first_left : (order : List (Call O)) (x : Call O) (left : List (Call O)) → All Either (order ++ x ∷ left) → Either x
  first_left [] x left h = All-head Either x left h
  first_left (y ∷ order) x left h = first_left order x left (All-tail Either y (order ++ x ∷ left) h)

  -- an order of both has two calls, each of which is one of them
  pub record Two (order : List (Call O)) : Type 0 where
    pub first : Call O
    pub second : Call O
    pub is : order ≡ first ∷ second ∷ []
    pub one : Either first
    pub other : Either second

  shape : (order : List (Call O)) → All Either (order ++ []) → length (order ++ []) ≡ 2 → Two order
  shape [] h l = absurd (omega arith)
  shape (x ∷ []) h l = absurd (omega arith)
  shape (x ∷ y ∷ []) h l = record {
    first = x;
    second = y;
    is = refl;
    one = All-head Either x (y ∷ []) h;
    other = All-head Either y [] (All-tail Either x (y ∷ []) h);
  }
  shape (x ∷ y ∷ z ∷ order) h l = absurd (omega arith)

  pub two_of : (order left : List (Call O)) → IsPermutation (c ∷ d ∷ []) (order ++ left) →
      EachCall (λ call. is_completed call ≡ false) left → Two order
  two_of order left p n =
      go left n
      (All-permutation Either (c ∷ d ∷ []) (order ++ left) p
      (All-cons Either c (d ∷ []) (inl refl) (All-cons Either d [] (inr refl) (All-nil Either))))
      (length_permutation (c ∷ d ∷ []) (order ++ left) p)
    where
      go : (left : List (Call O)) → EachCall (λ call. is_completed call ≡ false) left → All Either (order ++ left) →
          length (order ++ left) ≡ 2 → Two order
      go [] n h l = shape order h l
      go (x ∷ left) n h l =
          absurd (false_true (sym n.0 ∙ either_ends x (first_left order x left h)))

module _ {O : Type 0} where
  -- a fact of the four lists of two calls is one of each order of both
  pub by_two : (c d : Call O) (c_ends : is_completed c ≡ true) (d_ends : is_completed d ≡ true)
      (order : List (Call O)) → Two c d c_ends d_ends order → (P : List (Call O) → Type 0) →
      P order → (P (c ∷ c ∷ []) → ⊥) → (P (c ∷ d ∷ []) → ⊥) → (P (d ∷ c ∷ []) → ⊥) → (P (d ∷ d ∷ []) → ⊥) → ⊥
  by_two c d c_ends d_ends order t P h cc_no cd_no dc_no dd_no =
      go t.first t.second t.one t.other (subst P t.is h)
    where
      go : (a b : Call O) → Either c d c_ends d_ends a → Either c d c_ends d_ends b → P (a ∷ b ∷ []) → ⊥
      go a b (inl e) (inl f) h = cc_no (subst (λ x. P (c ∷ x ∷ [])) f (subst (λ x. P (x ∷ b ∷ [])) e h))
      go a b (inl e) (inr f) h = cd_no (subst (λ x. P (c ∷ x ∷ [])) f (subst (λ x. P (x ∷ b ∷ [])) e h))
      go a b (inr e) (inl f) h = dc_no (subst (λ x. P (d ∷ x ∷ [])) f (subst (λ x. P (x ∷ b ∷ [])) e h))
      go a b (inr e) (inr f) h = dd_no (subst (λ x. P (d ∷ x ∷ [])) f (subst (λ x. P (x ∷ b ∷ [])) e h))

  -- two transactions, by their calls
  pub record Both (order : List (Transaction O)) (c d : Call O) : Type 0 where
    pub first : ℕ
    pub second : ℕ
    pub is : order ≡ record { call = c; missed = first } ∷ record { call = d; missed = second } ∷ []

  pub both_of : (order : List (Transaction O)) (c d : Call O) → calls_of order ≡ c ∷ d ∷ [] → Both order c d
  both_of [] c d e = absurd (none_cons c (d ∷ []) e)
  both_of (a ∷ []) c d e = absurd (none_cons d [] (cons_same a.call c [] (d ∷ []) e).1)
  both_of (a ∷ b ∷ []) c d e =
      let one = cons_same a.call c (b.call ∷ []) (d ∷ []) e in
      let two = cons_same b.call d [] [] one.1 in
      record {
        first = a.missed;
        second = b.missed;
        is = ap (λ (x : Call O). record { call = x; missed = a.missed } ∷ b ∷ []) one.0
            ∙ ap (λ (x : Call O). record { call = c; missed = a.missed } ∷ record { call = x; missed = b.missed } ∷ [])
            two.0;
      }
  both_of (a ∷ b ∷ x ∷ order) c d e =
      let one = cons_same a.call c (b.call ∷ x.call ∷ calls_of order) (d ∷ []) e in
      let two = cons_same b.call d (x.call ∷ calls_of order) [] one.1 in
      absurd (none_cons x.call (calls_of order) (sym two.1))
