-- Which of the first calls of the lists is to be written next.
use Rattle.std.proofs.Common.{◌≡◌, ◌∙◌, ◌+◌, inl, inr, refl, sym, ap, subst, arith, ℕ, true, false, List, [], ◌∷◌}
use Rattle.std.proofs.Common.{Option, Some, None, slice_get}
use Rattle.std.specs.Borrow.{Bor}
use Rattle.std.proofs.lemmas.Bool.{cases_lt}
use Rattle.vac_manager.specs.declared.note.CompletedCall.{CompletedCall}
use Rattle.load_record.specs.Order.{Entry, entries_of, list_at, precedes}
use Rattle.load_record.specs.Rests.{BeginsWith, IsLeast, IsBest}
use Rattle.load_record.proofs.Ordering.{precedes_chain, precedes_turns, precedes_self}

pub none_first : {X : Type 0} (xs : List X) → slice_get xs 0 ≡ None → xs ≡ []
none_first [] e = refl
none_first (x ∷ xs) e = absurd (let h : Some x ≡ None = e in cc)

pub some_first : {X : Type 0} (xs : List X) (n : X) → slice_get xs 0 ≡ Some n → (more : List X) × (xs ≡ n ∷ more)
some_first [] n e = absurd (let h : None ≡ Some n = e in cc)
some_first (x ∷ xs) n e = (xs, let h : x ≡ n = cc in ap (λ y. y ∷ xs) h)

same_head : {X : Type 0} (x y : X) (xs ys : List X) → x ∷ xs ≡ y ∷ ys → x ≡ y
same_head x y xs ys e = cc

module _ (lists : List (List Entry)) (place client : ℕ) (notes : List CompletedCall)
    (at : list_at lists place ≡ entries_of client notes) where
  -- what the list at the place begins with
  module _ (n : CompletedCall) (more : List CompletedCall) (is : notes ≡ n ∷ more) where
    at_place : list_at lists place ≡ entries_of client (n ∷ more)
    at_place = at ∙ ap (entries_of client) is

    begins : BeginsWith lists place n
    begins = (record { client = client; note = n }, entries_of client more, at_place, refl)

    begins_only : (m : CompletedCall) → BeginsWith lists place m → m ≡ n
    begins_only m b = sym b.3 ∙ ap (λ e. e.note) (same_head b.0 (record { client = client; note = n }) b.1
        (entries_of client more) (sym b.2 ∙ at_place))

    least_more : (x : CompletedCall) → precedes n x ≡ false → IsLeast lists place x → IsLeast lists (place + 1) x
    least_more x p least k m low b = elim (cases_lt k place) [
      | inl less ↦ least k m less b
      | inr more' ↦
          let e : k ≡ place = omega (arith, low, more') in
          let b' : BeginsWith lists place m = subst (λ (j : ℕ). BeginsWith lists j m) e b in
          subst (λ (y : CompletedCall). precedes y x ≡ false) (sym (begins_only m b')) p
    ]

    pub best_kept : (best : ℕ × Bor CompletedCall) → precedes n best.1.now ≡ false → IsBest lists place (Some best) →
        IsBest lists (place + 1) (Some best)
    best_kept best p i = (omega (arith, i.0), i.1, least_more best.1.now p i.2)

    pub best_changed : (best : ℕ × Bor CompletedCall) (note : Bor CompletedCall) → note.now ≡ n →
        precedes n best.1.now ≡ true →
        IsBest lists place (Some best) → IsBest lists (place + 1) (Some (place, note))
    best_changed best note e p i =
        let turns = precedes_turns n best.1.now p in
        let least : IsLeast lists place n = λ k m less b. precedes_chain m best.1.now n (i.2 k m less b) turns in
        let all = least_more n (precedes_self n) least in
        (omega arith, subst (BeginsWith lists place) (sym e) begins, subst (IsLeast lists (place + 1)) (sym e) all)

    pub best_first : (note : Bor CompletedCall) → note.now ≡ n → IsBest lists place None →
        IsBest lists (place + 1) (Some (place, note))
    best_first note e i =
        let least : IsLeast lists place n = λ k m less b. absurd (let h : b.0 ∷ b.1 ≡ [] = sym b.2 ∙ i k less in cc) in
        let all = least_more n (precedes_self n) least in
        (omega arith, subst (BeginsWith lists place) (sym e) begins, subst (IsLeast lists (place + 1)) (sym e) all)

  -- the list at the place is empty
  module _ (is : notes ≡ []) where
    none_at : list_at lists place ≡ []
    none_at = at ∙ ap (entries_of client) is

    pub best_skipped : (best : Option (ℕ × Bor CompletedCall)) → IsBest lists place best → IsBest lists (place + 1) best
    best_skipped None i = λ k low. elim (cases_lt k place) [
      | inl less ↦ i k less
      | inr more ↦ let e : k ≡ place = omega (arith, low, more) in
          subst (λ (j : ℕ). list_at lists j ≡ []) (sym e) none_at
    ]
    best_skipped (Some best) i = (
      omega (arith, i.0),
      i.1,
      λ k m low b. elim (cases_lt k place) [
        | inl less ↦ i.2 k m less b
        | inr more ↦
            let e : k ≡ place = omega (arith, low, more) in
            let b' : BeginsWith lists place m = subst (λ (j : ℕ). BeginsWith lists j m) e b in
            absurd (let h : b'.0 ∷ b'.1 ≡ [] = sym b'.2 ∙ none_at in cc)
      ],
    )
