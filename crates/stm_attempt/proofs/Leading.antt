-- A record keeps fitting images, where its transaction leaves the words of one where it found some.
use Rattle.std.proofs.Common.{◌≡◌, ℕ, suc, ◌<◌, List, [], ◌∷◌, length, slice_index, refl, sym, subst, ◌∙◌, arith}
use Rattle.tx_memory.specs.Image.{laid}
use Rattle.stm_attempt.specs.Leading.{IsLocal, LeadsFitting, AreFittingWords, KeepsFitting}

module _ (fits : List ℕ → Type 0) where
  pub fitting_local : IsLocal (AreFittingWords fits)
  fitting_local m m' n same h = record {
    image = h.image;
    fitting = h.fitting;
    length_is = h.length_is;
    same = λ a less. h.same a less ∙ sym (same a less);
  }

  same_list : (xs ys : List ℕ) → length xs ≡ length ys → ((a : ℕ) → a < length ys →
      slice_index xs a ≡ slice_index ys a) → xs ≡ ys
  same_list [] [] l same = refl
  same_list [] (y ∷ ys) l same = absurd (omega (arith, l))
  same_list (x ∷ xs) [] l same = absurd (omega (arith, l))
  same_list (x ∷ xs) (y ∷ ys) l same =
      let head : x ≡ y = same 0 (omega arith) in
      let tail : xs ≡ ys = same_list xs ys (omega (arith, l)) (λ a less. same (suc a) (omega (arith, less))) in
      rw (head, tail) refl

  pub keeps_fitting : (reads writes : List (ℕ × ℕ)) → LeadsFitting fits (AreFittingWords fits)
      (AreFittingWords fits) reads writes →
      KeepsFitting fits reads writes
  keeps_fitting reads writes leads image f agrees =
      let after = leads image f agrees (record { image = image; fitting = f; length_is = refl; same = λ a less. refl })
      in
      subst fits (same_list after.image (laid image writes) after.length_is after.same) after.fitting
