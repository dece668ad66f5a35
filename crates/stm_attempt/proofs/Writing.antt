-- The pairs of a write log: each address once, inside the region, and their locks are those that are held.
use Rattle.std.proofs.Common.{◌≡◌, ◌≢◌, inl, inr, refl, sym, ap, subst, ◌∙◌, ℕ, ◌<◌, Bool, true, false, ◌||◌, eqb}
use Rattle.std.proofs.Common.{eq-eqb, eqb-true, List, [], ◌∷◌, Option, Some, None, length, arith}
use Rattle.std.proofs.lemmas.Bool.{ne_eqb}
use Rattle.std.specs.Prelude.{◌≡◌, ◌↔◌, true}
use Rattle.std.specs.FinMap.{get, len, len-entries}
use Rattle.stm_logs.specs.Log.{LogValue, log_pairs, log_locks, SameAddresses}
use Rattle.stm_logs.proofs.RisingLemmas.{Rising, rising_entries, in_map, get_in, in_get, In as Among}
use Rattle.stm_logs.proofs.LockLemmas.{in_locks, locks_in}
use Rattle.stm_logs.proofs.TableLemmas.{both_bool, some_none}
use Rattle.stm_core.specs.Client.{writes_to}
use Rattle.stm_region.specs.Shown.{RegionShown}
use Rattle.stm_attempt.specs.Begun.{IsPlaced, addresses}
use Rattle.stm_attempt.proofs.Locks.{held_among, among_held}
use Rattle.stm_core.proofs.Conditions.{LocksMatch, write_test}
use Rattle.stm_core.specs.Guards.{is_map, may_write, stripe_of}

-- the pairs name an address exactly where it is among their addresses
pub written_among : (ps : List (ℕ × ℕ)) (a : ℕ) → writes_to ps a ≡ true → (x : ℕ) × Among (a, x) ps
written_among [] a e = cc
written_among (p ∷ ps) a e =
    elim (both_bool (eqb p.0 a)) [
      | inl here ↦ (p.1, inl (λ i. (sym (eqb-true p.0 a here) i, p.1)))
      | inr other ↦ (let rest = written_among ps a (sym (ap (λ (t : Bool). t || writes_to ps a) other) ∙ e) in
          (rest.0, inr rest.1))
    ]

pub among_written : (ps : List (ℕ × ℕ)) (a : ℕ) → Among a (addresses ps) → writes_to ps a ≡ true
among_written [] a i = absurd i
among_written (p ∷ ps) a (inl e) = ap (λ (t : Bool). t || writes_to ps a) (eq-eqb p.0 a (sym e))
among_written (p ∷ ps) a (inr i) =
    elim (both_bool (eqb p.0 a)) [
      | inl here ↦ ap (λ (t : Bool). t || writes_to ps a) here
      | inr other ↦ ap (λ (t : Bool). t || writes_to ps a) other ∙ among_written ps a i
    ]

-- a lock is the client's own exactly where the log has it
pub own_lock : (w : LogValue) (held : List (ℕ × ℕ)) (k : ℕ) → addresses held ≡ log_locks w → (b : Bool) →
    (b ≡ true) ↔ ((a : ℕ) × (get w.locks a ≡ Some k)) → writes_to held k ≡ b
own_lock w held k same true has =
    let at = has.0 refl in
    among_written held k (subst (λ (ks : List ℕ). Among k ks) (sym same) (in_locks w at.0 k at.1))
own_lock w held k same false has =
    elim (both_bool (writes_to held k)) [
      | inl held_too ↦ (let there = written_among held k held_too in let key : Among k (addresses held) =
          in_map (λ (p : ℕ × ℕ). p.0) held (k, there.0) there.1 in let at : false ≡ true =
          has.1 (locks_in w k (subst (λ (ks : List ℕ). Among k ks) same key)) in cc)
      | inr none ↦ none
    ]

not_later : (ps : List (ℕ × ℕ)) (a : ℕ) → ((p : ℕ × ℕ) → Among p ps → a < p.0) → writes_to ps a ≡ false
not_later [] a above = refl
not_later (p ∷ ps) a above =
    let less : a < p.0 = above p (inl refl) in
    ap (λ (t : Bool). t || writes_to ps a) (ne_eqb p.0 a (λ e. absurd (omega arith))) ∙
    not_later ps a (λ q i. above q (inr i))

each_once : (ps : List (ℕ × ℕ)) → Rising (λ (p : ℕ × ℕ). p.0) ps → is_map ps ≡ true
each_once [] rises = refl
each_once (p ∷ ps) rises = rw (not_later ps p.0 rises.0, each_once ps rises.1) refl

some_there : (o : Option ℕ) → (o ≡ None → ⊥) → (x : ℕ) × (o ≡ Some x)
some_there None not_none = absurd (not_none refl)
some_there (Some x) not_none = (x, refl)

module _ (region : RegionShown) (w : LogValue) (held : List (ℕ × ℕ)) (placed : IsPlaced region w)
    (addressed : SameAddresses w) (same : addresses held ≡ log_locks w) where
  -- a written address has a lock
  lock_there : (a : ℕ) → writes_to (log_pairs w) a ≡ true → (k : ℕ) × (get w.locks a ≡ Some k)
  lock_there a written =
      let pair = written_among (log_pairs w) a written in
      let value : get w.words a ≡ Some pair.0 = in_get w.words a pair.0 pair.1 in
      some_there (get w.locks a) (λ none. some_none pair.0 (sym value ∙ (addressed a).1 none))

  -- a lock that is held is that of a written address
  address_there : (k : ℕ) → Among k (addresses held) → (a : ℕ) × (writes_to (log_pairs w) a ≡ true) ×
      (stripe_of region.stripes a ≡ k)
  address_there k i =
      let at = locks_in w k (subst (λ (ks : List ℕ). Among k ks) same i) in
      let value = some_there (get w.words at.0) (λ none. some_none k (sym at.1 ∙ (addressed at.0).0 none)) in
      let key : Among at.0 (addresses (log_pairs w)) = in_map (λ (p : ℕ × ℕ). p.0) (log_pairs w) (at.0, value.0)
      (get_in w.words at.0 value.0 value.1) in
      (at.0, among_written (log_pairs w) at.0 key, sym (placed.lock at.0 k at.1))

  locks_match : LocksMatch (stripe_of region.stripes) held (log_pairs w)
  locks_match = record {
    every = λ a written. (let there = lock_there a written in
        among_held held (stripe_of region.stripes a) (subst (λ (ks : List ℕ). Among (stripe_of region.stripes a) ks)
        (sym same) (in_locks w a (stripe_of region.stripes a) (there.1 ∙ ap Some (placed.lock a there.0 there.1)))));
    only = λ k u i. address_there k (held_among held k u i);
  }

  -- the log may be written where all its locks are held
  pub log_may_write : len w.words ≢ 0 → may_write (stripe_of region.stripes) region.size held (log_pairs w) ≡ true
  log_may_write some = (write_test (stripe_of region.stripes) region.size held (log_pairs w)).complete (record {
    some = λ e. some (len-entries w.words ∙ ap length e);
    once = each_once (log_pairs w) (rising_entries w.words);
    inside = λ a written. (let there = lock_there a written in placed.inside a there.0 there.1);
    locks = locks_match;
  })
