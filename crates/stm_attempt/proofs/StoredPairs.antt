-- Values that are stored one after the other.
use Rattle.std.proofs.Common.{◌≡◌, ◌⊎◌, inl, inr, refl, sym, ap, subst, ◌∙◌, ℕ, zero, suc, ◌+◌, ◌<◌, Bool, true, false}
use Rattle.std.proofs.Common.{List, [], ◌∷◌, ◌++◌, append_assoc, length, length-append, Option, Some, None, arith}
use Rattle.std.proofs.lemmas.Bool.{eqb-true, eq-eqb}
use Rattle.std.proofs.lemmas.List.{append-nil, map-append}
use Rattle.std.specs.FinMap.{get}
use Rattle.std.specs.List.{flat_map}
use mathlib.Core.Option.{some}
use Rattle.tx_memory.specs.Image.{In}
use Rattle.tx_memory.specs.Paired.{in_later}
use Rattle.stm_core.specs.Client.{Client, Stamp, committed, writes_to, old_version, RecordLaw}
use Rattle.stm_core.specs.Event.{put, after}
use Rattle.stm_core.proofs.Held.{old_in}
use Rattle.stm_logs.specs.Log.{LogValue, log_pairs, log_locks, is_number, pairs_of, pairs_by_lock, SameAddresses}
use Rattle.stm_logs.proofs.LockLemmas.{in_locks, locks_rise}
use Rattle.stm_logs.proofs.RisingLemmas.{Rising, rising_entries, rising_filter, filter_in, in_filter, in_get, get_in}
use Rattle.stm_logs.proofs.RisingLemmas.{in_map, In as Among}
use Rattle.stm_region.specs.Shown.{RegionShown, bounds}
use Rattle.stm_attempt.specs.Begun.{addresses, address_of, IsPlaced}
use Rattle.stm_attempt.specs.Committing.{settling}
use Rattle.stm_attempt.specs.CommitParts.{CanSettle, IsAllStored, HasStored}
use Rattle.stm_attempt.proofs.Locks.{among_held, among_middle, among_front}
use Rattle.stm_attempt.proofs.Counting.{count_shares, one_kept}
use Rattle.stm_core.proofs.Conditions.{may_act_so}
use Rattle.stm_core.specs.Guards.{Holds, May, stripe_of}

pub among_in : {X : Type 0} (x : X) (xs : List X) → Among x xs → In x xs
among_in x [] i = absurd i
among_in x (y ∷ ys) (inl e) = (zero, ap some (sym e))
among_in x (y ∷ ys) (inr i) = in_later _ _ _ (among_in x ys i)

pub in_among : {X : Type 0} (x : X) (xs : List X) → In x xs → Among x xs
in_among x [] (zero, e) = cc
in_among x [] (suc n, e) = cc
in_among x (y ∷ ys) (zero, e) = inl (let q : x ≡ y = cc in q)
in_among x (y ∷ ys) (suc n, e) = inr (in_among x ys (n, e))

among_either : {X : Type 0} (xs ys : List X) (x : X) → Among x (xs ++ ys) → Among x xs ⊎ Among x ys
among_either [] ys x i = inr i
among_either (z ∷ xs) ys x (inl e) = inl (inl e)
among_either (z ∷ xs) ys x (inr i) = elim (among_either xs ys x i) [ inl l ↦ inl (inr l) | inr r ↦ inr r ]

among_back : {X : Type 0} (xs ys : List X) (x : X) → Among x ys → Among x (xs ++ ys)
among_back [] ys x i = i
among_back (z ∷ xs) ys x i = inr (among_back xs ys x i)

number_is : (o : Option ℕ) (k : ℕ) → is_number o k ≡ true → o ≡ Some k
number_is None k e = cc
number_is (Some j) k e = ap Some (eqb-true j k e)

is_its_number : (k : ℕ) → is_number (Some k) k ≡ true
is_its_number k = eq-eqb k k refl

-- no address comes twice
abbrev AreApart : List (ℕ × ℕ) → Type 0
AreApart [] = Unit {0}
AreApart (p ∷ ps) = ((q : ℕ × ℕ) → Among q ps → q.0 ≡ p.0 → ⊥) × AreApart ps

rising_apart : (ps : List (ℕ × ℕ)) → Rising address_of ps → AreApart ps
rising_apart [] rises = tt
rising_apart (p ∷ ps) rises = (
  λ q i same. (let less : p.0 < q.0 = rises.0 q i in absurd (omega (arith, less, same))),
  rising_apart ps rises.1,
)

apart_both : (ps qs : List (ℕ × ℕ)) → AreApart ps → AreApart qs →
    ((p q : ℕ × ℕ) → Among p ps → Among q qs → q.0 ≡ p.0 → ⊥) → AreApart (ps ++ qs)
apart_both [] qs first last across = last
apart_both (p ∷ ps) qs first last across = (
  λ q i same. elim (among_either ps qs q i) [ inl l ↦ first.0 q l same | inr r ↦ across p q (inl refl) r same ],
  apart_both ps qs first.1 last (λ x q i j same. across x q (inr i) j same),
)

-- an address does not come before itself
apart_once : (before after : List (ℕ × ℕ)) (a x : ℕ) → AreApart (before ++ (a, x) ∷ after) →
    Among a (addresses before) → ⊥
apart_once [] after a x apart i = i
apart_once (p ∷ ps) after a x apart (inl is) = apart.0 (a, x) (among_middle ps (a, x) after) is
apart_once (p ∷ ps) after a x apart (inr i) = apart_once ps after a x apart.1 i

module _ (w : LogValue) where
  -- the pair has this lock
  abbrev pub has_lock : ℕ × ℕ → ℕ → Bool
  has_lock p k = is_number (get w.locks p.0) k

  pub pair_logged : (k a x : ℕ) → Among (a, x) (pairs_of w k) → (get w.words a ≡ Some x) × (get w.locks a ≡ Some k)
  pair_logged k a x i =
      let s = filter_in (λ (p : ℕ × ℕ). has_lock p k) (log_pairs w) (a, x) i in
      (in_get w.words a x s.0, number_is (get w.locks a) k s.1)

  pub pair_stands : (k a x : ℕ) → Among (a, x) (log_pairs w) → get w.locks a ≡ Some k → Among (a, x) (pairs_of w k)
  pair_stands k a x i is =
      in_filter (λ (p : ℕ × ℕ). has_lock p k) (log_pairs w) (a, x) i (ap (λ (o : Option ℕ). is_number o k) is ∙
      is_its_number k)

  rising_pairs : (k : ℕ) → Rising address_of (pairs_of w k)
  rising_pairs k = rising_filter address_of (λ (p : ℕ × ℕ). has_lock p k) (log_pairs w) (rising_entries w.words)

  pub lock_of_pair : SameAddresses w → (p : ℕ × ℕ) → Among p (log_pairs w) → (k : ℕ) × (get w.locks p.0 ≡ Some k)
  lock_of_pair same p i = there (get w.locks p.0) refl
    where
      there : (o : Option ℕ) → get w.locks p.0 ≡ o → (k : ℕ) × (get w.locks p.0 ≡ Some k)
      there None e = (let none = (same p.0).1 e in let some_is = in_get w.words p.0 p.1 i in
          absurd (let q : Some p.1 ≡ None = sym some_is ∙ none in cc))
      there (Some k) e = (k, e)

  -- each pair has one lock, so the pairs of all locks are as many as all
  pub pairs_counted : SameAddresses w → length (flat_map (pairs_of w) (log_locks w)) ≡ length (log_pairs w)
  pairs_counted same = count_shares has_lock (log_pairs w) (log_locks w) (λ p i.
      let lock = lock_of_pair same p i in
      one_kept (has_lock p) (log_locks w) lock.0 (locks_rise w) (in_locks w p.0 lock.0 lock.1)
      (ap (λ (o : Option ℕ). is_number o lock.0) lock.1 ∙ is_its_number lock.0) (λ j t.
      let both : Some j ≡ Some lock.0 = sym (number_is (get w.locks p.0) j t) ∙ lock.1 in
      let q : j ≡ lock.0 = cc in q))

  among_flat : (ks : List ℕ) (k : ℕ) (p : ℕ × ℕ) → Among k ks → Among p (pairs_of w k) →
      Among p (flat_map (pairs_of w) ks)
  among_flat [] k p i m = absurd i
  among_flat (j ∷ ks) k p (inl e) m = among_front (pairs_of w j) _ p (subst (λ (l : ℕ). Among p (pairs_of w l)) e m)
  among_flat (j ∷ ks) k p (inr i) m = among_back (pairs_of w j) _ p (among_flat ks k p i m)

  flat_among : (ks : List ℕ) (p : ℕ × ℕ) → Among p (flat_map (pairs_of w) ks) →
      (k : ℕ) × (Among k ks × Among p (pairs_of w k))
  flat_among [] p i = absurd i
  flat_among (j ∷ ks) p i = elim (among_either (pairs_of w j) (flat_map (pairs_of w) ks) p i) [
    | inl l ↦ (j, (inl refl, l))
    | inr r ↦ (let s = flat_among ks p r in (s.0, (inr s.1.0, s.1.1)))
  ]

  flat_apart : (ks : List ℕ) → Rising (λ (x : ℕ). x) ks → AreApart (flat_map (pairs_of w) ks)
  flat_apart [] rises = tt
  flat_apart (k ∷ ks) rises = apart_both (pairs_of w k) (flat_map (pairs_of w) ks)
      (rising_apart (pairs_of w k) (rising_pairs k)) (flat_apart ks rises.1) (λ p q i j same.
      let f = flat_among ks q j in
      let less : k < f.0 = rises.0 f.0 f.1.0 in
      let both : Some f.0 ≡ Some k = sym (pair_logged f.0 q.0 q.1 f.1.1).1 ∙ ap (get w.locks) same ∙
      (pair_logged k p.0 p.1 i).1 in
      let is : f.0 ≡ k = cc in
      absurd (omega (arith, less, is)))

-- no address of the pairs is stored
abbrev pub IsUnstored : List (ℕ × ℕ) → List ℕ → Type 0
IsUnstored pairs stored = (address x : ℕ) → In (address, x) pairs → In address stored → ⊥

-- a decided attempt may store the pairs one after the other: each is one of its writes that is not
-- stored, it has the lock of each, and no address comes twice
pub record AreStorable (region : RegionShown) (v : Client) (pairs : List (ℕ × ℕ)) : Type 0 where
  pub inside : (address x : ℕ) → In (address, x) pairs → address < region.size
  pub written : (address x : ℕ) → In (address, x) pairs → In (address, x) v.attempt.writes
  pub held : (address x : ℕ) → In (address, x) pairs
      → Holds v.attempt.held (stripe_of region.stripes address)
  pub unstored : IsUnstored pairs v.attempt.stored
  pub once : (before after : List (ℕ × ℕ)) (address x : ℕ)
      → before ++ (address, x) ∷ after ≡ pairs → In address (addresses before) → ⊥

-- the pairs were stored in their order, one step each
pub record HasStoredPairs (v v' : Client) (pairs : List (ℕ × ℕ)) : Type 0 where
  pub same : settling v' ≡ settling v
  pub held : v'.attempt.held ≡ v.attempt.held
  pub stored : v'.attempt.stored ≡ v.attempt.stored ++ addresses pairs
  pub steps : v'.attempt.steps ≡ v.attempt.steps + length pairs

-- the pairs of the rest are still to be stored
pub record IsStoring (v v' : Client) (pairs rest : List (ℕ × ℕ)) : Type 0 where
  pub done : List (ℕ × ℕ)
  pub order : done ++ rest ≡ pairs
  pub has : HasStoredPairs v v' done

has_more : (v u v' : Client) (xs ys : List (ℕ × ℕ)) → HasStoredPairs v u xs → HasStoredPairs u v' ys →
    HasStoredPairs v v' (xs ++ ys)
has_more v u v' xs ys first next = record {
  same = next.same ∙ first.same;
  held = next.held ∙ first.held;
  stored = next.stored ∙ ap (λ (zs : List ℕ). zs ++ addresses ys) first.stored ∙ append_assoc v.attempt.stored
      (addresses xs) (addresses ys) ∙ ap (λ (zs : List ℕ). v.attempt.stored ++ zs) (sym (map-append address_of xs ys));
  steps = omega (arith, first.steps, next.steps, length-append xs ys);
}

module _ (lawful : RecordLaw) (t : Stamp) (region : RegionShown) (v0 v : Client) (a x : ℕ)
    (pairs now rest : List (ℕ × ℕ)) (storing : IsStoring v0 v pairs now) (next : now ≡ (a, x) ∷ rest)
    (able : AreStorable region v0 pairs) where
  order : storing.done ++ (a, x) ∷ rest ≡ pairs
  order = ap (λ (ps : List (ℕ × ℕ)). storing.done ++ ps) (sym next) ∙ storing.order

  here : In (a, x) pairs
  here = among_in (a, x) pairs (subst (λ (ps : List (ℕ × ℕ)). Among (a, x) ps) order
      (among_middle storing.done (a, x) rest))

  pub put_inside : a < region.size
  put_inside = able.inside a x here

  pub may_put : (v0.is_gathered ≡ false) × (v0.attempt.phase ≡ committed) →
      May lawful (stripe_of region.stripes) (bounds region) (put a x) v
  may_put decided =
      let same_writes : v0.attempt.writes ≡ v.attempt.writes =
      sym (ap (λ (c : Client). c.attempt.writes) storing.has.same) in
      let same_held : v0.attempt.held ≡ v.attempt.held = sym (storing.has.held) in (
        ap (λ (c : Client). c.is_gathered) storing.has.same ∙ decided.0,
        may_act_so (stripe_of region.stripes) lawful (bounds region) v.attempt (put a x) (
          ap (λ (c : Client). c.attempt.phase) storing.has.same ∙ decided.1,
          subst (In (a, x)) same_writes (able.written a x here),
          subst (λ (h : List (ℕ × ℕ)). Holds h (stripe_of region.stripes a)) same_held (able.held a x here),
          λ i. elim (among_either v0.attempt.stored (addresses storing.done) a
              (in_among a _ (subst (In a) storing.has.stored i))) [
                | inl before ↦ able.unstored a x here (among_in a v0.attempt.stored before)
                | inr since ↦ able.once storing.done rest a x order (among_in a (addresses storing.done) since)
              ],
        ),
      )

  pub stored_one : (v' : Client) → v' ≡ after t (stripe_of region.stripes) (put a x) 0 v → IsStoring v0 v' pairs rest
  stored_one v' e = record {
    done = storing.done ++ (a, x) ∷ [];
    order = append_assoc storing.done ((a, x) ∷ []) rest ∙ order;
    has = has_more v0 v v' storing.done ((a, x) ∷ []) storing.has (record {
      same = ap settling e;
      held = ap (λ (c : Client). c.attempt.held) e;
      stored = ap (λ (c : Client). c.attempt.stored) e;
      steps = ap (λ (c : Client). c.attempt.steps) e;
    });
  }

-- a decided attempt may store the pairs of its log
pub all_storable : (region : RegionShown) (w : LogValue) (v : Client) → IsPlaced region w → CanSettle v w →
    AreStorable region v (pairs_by_lock w)
all_storable region w v placed decided =
    let lock : (a x : ℕ) → In (a, x) (pairs_by_lock w) → (k : ℕ) ×
    (Among k (log_locks w) × Among (a, x) (pairs_of w k)) =
    λ a x i. flat_among w (log_locks w) (a, x) (in_among (a, x) _ i) in
    let logged : (a x : ℕ) (i : In (a, x) (pairs_by_lock w)) →
    (get w.words a ≡ Some x) × (get w.locks a ≡ Some (lock a x i).0) =
    λ a x i. pair_logged w (lock a x i).0 a x (lock a x i).1.1 in record {
      inside = λ a x i. placed.inside a (lock a x i).0 (logged a x i).1;
      written = λ a x i. subst (In (a, x)) (sym decided.writes)
          (among_in (a, x) (log_pairs w) (get_in w.words a x (logged a x i).0));
      held = λ a x i. subst (Holds v.attempt.held) (placed.lock a (lock a x i).0 (logged a x i).1)
          (among_held v.attempt.held (lock a x i).0 (subst (Among (lock a x i).0) (sym decided.held) (lock a x i).1.0));
      unstored = λ a x i m. in_among a [] (subst (In a) decided.stored m);
      once = λ before after a x order i. apart_once before after a x
          (subst AreApart (sym order) (flat_apart w (log_locks w) (locks_rise w))) (in_among a (addresses before) i);
    }

-- before the first pair nothing is stored
pub storing_none : (w : LogValue) (v : Client) (rest : List (ℕ × ℕ)) → rest ≡ pairs_by_lock w →
    IsStoring v v (pairs_by_lock w) rest
storing_none w v rest all = record {
  done = [];
  order = all;
  has = record { same = refl; held = refl; stored = sym (append-nil v.attempt.stored); steps = omega arith };
}

module _ (w : LogValue) (v0 v : Client) (now : List (ℕ × ℕ)) (storing : IsStoring v0 v (pairs_by_lock w) now)
    (none_left : now ≡ []) (same_addresses : SameAddresses w) (writes : v0.attempt.writes ≡ log_pairs w) where
  all_has : HasStoredPairs v0 v (pairs_by_lock w)
  all_has = subst (HasStoredPairs v0 v) (sym (append-nil storing.done) ∙ ap (λ (ps : List (ℕ × ℕ)). storing.done ++ ps)
      (sym none_left) ∙ storing.order) storing.has

  all_stored : IsAllStored v
  all_stored a written =
      let same_writes : v.attempt.writes ≡ log_pairs w = ap (λ (c : Client). c.attempt.writes) all_has.same ∙ writes in
      let logged : writes_to (log_pairs w) a ≡ true = subst (λ (ps : List (ℕ × ℕ)). writes_to ps a ≡ true) same_writes
      written in
      let x : ℕ = old_version (log_pairs w) a in
      let pair : Among (a, x) (log_pairs w) = in_among (a, x) _ (old_in (log_pairs w) a logged) in
      let lock = lock_of_pair w same_addresses (a, x) pair in
      let stands = pair_stands w lock.0 a x pair lock.1 in
      let flat = among_flat w (log_locks w) lock.0 (a, x) (in_locks w a lock.0 lock.1) stands in
      subst (In a) (sym all_has.stored) (among_in a _ (among_back v0.attempt.stored _ a
      (in_map address_of _ (a, x) flat)))

  pub has_stored : HasStored v0 v
  has_stored = record {
    same = all_has.same;
    held = all_has.held;
    every = all_stored;
    steps = all_has.steps ∙ ap (λ (n : ℕ). v0.attempt.steps + n)
        (pairs_counted w same_addresses ∙ ap length (sym writes));
  }
