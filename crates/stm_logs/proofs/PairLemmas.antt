-- The words of a chain one after the other are those of its locks.
use Rattle.std.proofs.Common.{◌≡◌, inl, inr, ℕ, zero, suc, ◌+◌, ◌<◌, Bool, false, cond, length, List, [], ◌∷◌, ◌++◌}
use Rattle.std.proofs.Common.{append_assoc, refl}
use Rattle.std.proofs.Common.{sym, ap, ◌∙◌, arith, subst}
use Rattle.std.specs.List.{flat_map}
use Rattle.stm_logs.specs.Nodes.{Node, at}
use Rattle.stm_logs.specs.Log.{empty_log, pairs_of, pairs_by_lock}
use Rattle.stm_logs.specs.Order.{rank_in, Least, IsChained, log_value}
use Rattle.stm_logs.specs.Chain.{EndsWithin, pair_of, goes_on, words_from, locks_from, pairs_from}
use Rattle.stm_logs.proofs.NodeLemmas.{same_or}
use Rattle.stm_logs.proofs.TableLemmas.{both_bool}
use Rattle.stm_logs.proofs.LogLemmas.{eq_zero, not_zero}
use Rattle.stm_logs.proofs.ChainLemmas.{going_on, goes_at, behind, pairs_are, least_of_lock, first_lock, all_locks}
use Rattle.stm_logs.proofs.ChainLemmas.{empty_locks}

-- a chain that does not go on with a lock has none of its words first
none_from : (ns : List Node) (lock most p : ℕ) → goes_on ns lock p ≡ false → words_from ns lock most p ≡ []
none_from ns lock zero p stops = refl
none_from ns lock (suc most) p stops = ap (λ b. cond b (pair_of (at ns p) ∷ words_from ns lock most (at ns p).next) [])
    stops

no_locks : (ns : List Node) (most p : ℕ) → p ≡ 0 → locks_from ns most p ≡ []
no_locks ns zero p none = refl
no_locks ns (suc most) p none =
    ap (λ b. cond b [] (cond (goes_on ns (at ns p).lock (at ns p).next) (locks_from ns most (at ns p).next)
    ((at ns p).lock ∷ locks_from ns most (at ns p).next))) (eq_zero p none)

no_pairs : (ns : List Node) (most p : ℕ) → p ≡ 0 → pairs_from ns most p ≡ []
no_pairs ns zero p none = refl
no_pairs ns (suc most) p none = ap (λ b. cond b [] (pair_of (at ns p) ∷ pairs_from ns most (at ns p).next))
    (eq_zero p none)

module _ (ns : List Node) (n : ℕ) (c : IsChained ns n) (room : n < length ns) where
  -- the words of a lock, in the log
  abbrev words_with : ℕ → List (ℕ × ℕ)
  words_with lock = pairs_of (log_value ns n) lock

  -- from a node of a lock on, of which some words lie behind
  flat_within : (low most p : ℕ) (done : List (ℕ × ℕ)) → Least ns n low p → EndsWithin ns most p → 0 < p
      → words_with (at ns p).lock ≡ done ++ words_from ns (at ns p).lock most p
      → flat_map words_with (locks_from ns most p) ≡ done ++ pairs_from ns most p
  flat_within low zero p done l ends some words = absurd (omega (arith, ends, some))
  flat_within low (suc most) p done l ends some words =
      let lock : ℕ = (at ns p).lock in
      let next : ℕ = (at ns p).next in
      let pair : ℕ × ℕ = pair_of (at ns p) in
      let inside = (l.some some).0 in
      let on = behind ns n c room p some inside in
      let mine : Bool → Bool → List ℕ = λ none goes. cond none []
      (cond goes (locks_from ns most next) (lock ∷ locks_from ns most next)) in
      let theirs : Bool → List (ℕ × ℕ) = λ none. cond none [] (pair ∷ pairs_from ns most next) in
      let first : words_with lock ≡ done ++ pair ∷ words_from ns lock most next =
      words ∙ ap (λ b. done ++ cond b (pair ∷ words_from ns lock most next) []) (goes_at ns lock p some refl) in
      ap (λ b. flat_map words_with (mine b (goes_on ns lock next))) (not_zero p some) ∙
      elim (both_bool (goes_on ns lock next)) [
        | inl goes ↦ (
            let same = going_on ns lock next goes in
            let more : words_with lock ≡ (done ++ pair ∷ []) ++ words_from ns lock most next =
            first ∙ sym (append_assoc done (pair ∷ []) (words_from ns lock most next)) in
            ap (λ b. flat_map words_with (mine false b)) goes
            ∙ flat_within (rank_in (at ns p) + 1) most next (done ++ pair ∷ []) on (ends some).1 same.0
            (subst (λ k. words_with k ≡ (done ++ pair ∷ []) ++ words_from ns k most next) (sym same.1) more)
            ∙ append_assoc done (pair ∷ []) (pairs_from ns most next))
        | inr stops ↦ (
            let rest : flat_map words_with (locks_from ns most next) ≡ pairs_from ns most next =
            elim (same_or next 0) [
              | inl none ↦ ap (flat_map words_with) (no_locks ns most next none) ∙ sym (no_pairs ns most next none)
              | inr ne ↦ (
                  let there : 0 < next = omega (arith, ne) in
                  flat_within (rank_in (at ns p) + 1) most next [] on (ends some).1 there
                  (sym (pairs_are ns n c room (at ns next).lock most next
                  (least_of_lock ns n c room p some inside stops there) (ends some).1)))
            ] in
            ap (λ b. flat_map words_with (mine false b)) stops
            ∙ ap (λ (ws : List (ℕ × ℕ)). ws ++ flat_map words_with (locks_from ns most next))
            (first ∙ ap (λ (ws : List (ℕ × ℕ)). done ++ pair ∷ ws) (none_from ns lock most next stops))
            ∙ append_assoc done (pair ∷ []) (flat_map words_with (locks_from ns most next))
            ∙ ap (λ (ws : List (ℕ × ℕ)). done ++ pair ∷ ws) rest)
      ] ∙ sym (ap (λ b. done ++ theirs b) (not_zero p some))

  -- the words from the first node on are those of the log
  pub all_pairs : (most p : ℕ) → Least ns n 0 p → EndsWithin ns most p →
      pairs_from ns most p ≡ pairs_by_lock (log_value ns n)
  all_pairs most p l ends = sym flat ∙ ap (flat_map words_with) (all_locks ns n c room most p l ends)
    where
      flat : flat_map words_with (locks_from ns most p) ≡ pairs_from ns most p
      flat = elim (same_or p 0) [
        | inl none ↦ ap (flat_map words_with) (no_locks ns most p none) ∙ sym (no_pairs ns most p none)
        | inr ne ↦ (
            let some : 0 < p = omega (arith, ne) in
            flat_within 0 most p [] l ends some
            (sym (pairs_are ns n c room (at ns p).lock most p (first_lock ns n c room p l some) ends)))
      ]

pub empty_by_lock : pairs_by_lock empty_log ≡ []
empty_by_lock = ap (flat_map (pairs_of empty_log)) empty_locks
