-- How many entries the lists of a commit have.
use Rattle.std.proofs.Common.{◌≡◌, refl, sym, ap, ◌∙◌, inl, inr, ℕ, suc, ◌+◌, ◌<◌, Bool, true, false, cond, List, []}
use Rattle.std.proofs.Common.{◌∷◌, length, length-append, filter, arith}
use Rattle.std.proofs.lemmas.List.{length-map}
use Rattle.std.specs.FinMap.{len, len-entries}
use Rattle.std.specs.List.{flat_map}
use Rattle.stm_logs.specs.Log.{LogValue, log_pairs}
use Rattle.stm_logs.proofs.TableLemmas.{both_bool, true_false}
use Rattle.stm_logs.proofs.RisingLemmas.{Rising, In as Among}
use Rattle.stm_attempt.specs.Begun.{addresses, address_of}

-- the pairs of a log are as many as its words
pub count_pairs : (w : LogValue) → length (log_pairs w) ≡ len w.words
count_pairs w = sym (len-entries w.words)

pub count_addresses : (ps : List (ℕ × ℕ)) → length (addresses ps) ≡ length ps
count_addresses ps = length-map ps address_of

keeps_here : {X : Type 0} (test : X → Bool) (x : X) (xs : List X) → test x ≡ true →
    length (filter test (x ∷ xs)) ≡ suc (length (filter test xs))
keeps_here test x xs t = ap (λ b. length (cond b (x ∷ filter test xs) (filter test xs))) t

skips_here : {X : Type 0} (test : X → Bool) (x : X) (xs : List X) → test x ≡ false →
    length (filter test (x ∷ xs)) ≡ length (filter test xs)
skips_here test x xs t = ap (λ b. length (cond b (x ∷ filter test xs) (filter test xs))) t

none_kept : {X : Type 0} (test : X → Bool) (xs : List X) → ((x : X) → Among x xs → test x ≡ false) →
    length (filter test xs) ≡ 0
none_kept test [] none = refl
none_kept test (x ∷ xs) none = skips_here test x xs (none x (inl refl)) ∙ none_kept test xs (λ y i. none y (inr i))

-- of rising numbers one alone passes
pub one_kept : (test : ℕ → Bool) (ks : List ℕ) (k : ℕ) → Rising (λ (x : ℕ). x) ks → Among k ks → test k ≡ true →
    ((j : ℕ) → test j ≡ true → j ≡ k) → length (filter test ks) ≡ 1
one_kept test [] k rises i t only = absurd i
one_kept test (j ∷ ks) k rises i t only = elim (both_bool (test j)) [
  | inl here ↦
      let same : j ≡ k = only j here in
      let rest : length (filter test ks) ≡ 0 = none_kept test ks (λ x later. elim (both_bool (test x)) [
        | inl also ↦ (let less : j < x = rises.0 x later in let is : x ≡ k = only x also in absurd (omega arith))
        | inr fails ↦ fails
      ]) in
      omega (arith, keeps_here test j ks here, rest)
  | inr fails ↦ elim i [
    | inl is ↦ absurd (true_false (test k) t (ap test is ∙ fails))
    | inr later ↦ skips_here test j ks fails ∙ one_kept test ks k rises.1 later t only
  ]
]

module _ {X : Type 0} (belongs : X → ℕ → Bool) where
  -- those that belong to the number
  abbrev pub share : List X → ℕ → List X
  share xs k = filter (λ (x : X). belongs x k) xs

  one_more : (x : X) (xs : List X) (ks : List ℕ) → length (flat_map (share (x ∷ xs)) ks) ≡ length
      (filter (belongs x) ks) + length (flat_map (share xs) ks)
  one_more x xs [] = refl
  one_more x xs (k ∷ ks) =
      let rest = one_more x xs ks in
      let more = length-append (share (x ∷ xs) k) (flat_map (share (x ∷ xs)) ks) in
      let less = length-append (share xs k) (flat_map (share xs) ks) in
      elim (both_bool (belongs x k)) [
        | inl t ↦ omega (
          arith,
          rest,
          more,
          less,
          keeps_here (λ (y : X). belongs y k) x xs t,
          keeps_here (belongs x) k ks t,
        )
        | inr f ↦ omega (
          arith,
          rest,
          more,
          less,
          skips_here (λ (y : X). belongs y k) x xs f,
          skips_here (belongs x) k ks f,
        )
      ]

  no_shares : (ks : List ℕ) → length (flat_map (share []) ks) ≡ 0
  no_shares [] = refl
  no_shares (k ∷ ks) = no_shares ks

  -- the shares of all numbers are as many as all, where each belongs to one number
  pub count_shares : (xs : List X) (ks : List ℕ) → ((x : X) → Among x xs → length (filter (belongs x) ks) ≡ 1) →
      length (flat_map (share xs) ks) ≡ length xs
  count_shares [] ks one = no_shares ks
  count_shares (x ∷ xs) ks one =
      omega (arith, one_more x xs ks, one x (inl refl), count_shares xs ks (λ y i. one y (inr i)))
