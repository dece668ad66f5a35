-- The locks of a log: they rise, and they are the locks of its addresses.
use Rattle.std.proofs.Common.{◌≡◌, ◌⊎◌, inl, inr, ℕ, ◌+◌, ◌≤◌, cond, Option, Some, None, List, [], ◌∷◌, map, length}
use Rattle.std.proofs.Common.{refl, sym, ap, ◌∙◌, arith, subst}
use Rattle.std.specs.FinMap.{get, insert, entries, keys, from_entries, get-from_entries, len, len-empty, len-insert}
use Rattle.std.specs.FinMap.{len-entries, contains_key}
use Rattle.std.specs.Ordering.{nat_cmp}
use Rattle.std.proofs.lemmas.Cmp.{nat_cmp_total}
use Rattle.std.proofs.lemmas.List.{length-map}
use Rattle.tx_memory.specs.View.{Words}
use Rattle.stm_logs.specs.Log.{LogValue, lock_map, log_locks, SameAddresses}
use Rattle.stm_logs.proofs.TableLemmas.{some_none, both_bool}
use Rattle.stm_logs.proofs.RisingLemmas.{In, Rising, rising_entries, get_in, in_get, in_map, map_in, rising_map}
use Rattle.stm_logs.proofs.RisingLemmas.{rising_same, found_some, find_in}

-- the locks strictly rise
pub locks_rise : (w : LogValue) → Rising (λ x. x) (log_locks w)
locks_rise w = rising_map (λ (p : ℕ × ℕ). p.0) (λ p. p.0) (λ x. x) (λ x. refl) (entries (lock_map w))
    (rising_entries (lock_map w))

-- a lock of the log is the lock of an address
pub locks_in : (w : LogValue) (k : ℕ) → In k (log_locks w) → (a : ℕ) × (get w.locks a ≡ Some k)
locks_in w k i =
    let s = map_in (λ (p : ℕ × ℕ). p.0) (entries (lock_map w)) k i in
    let a : ℕ = s.0.1 in
    let there : In (k, a) (entries (lock_map w)) = subst (λ q. In (q, a) (entries (lock_map w))) (sym s.1.1) s.1.0 in
    let turned : List (ℕ × ℕ) = map (λ (p : ℕ × ℕ). (p.1, p.0)) (entries w.locks) in
    let found : In (k, a) turned = find_in turned k a (sym (get-from_entries nat_cmp_total turned k) ∙
    in_get (lock_map w) k a there) in
    let back = map_in (λ (p : ℕ × ℕ). (p.1, p.0)) (entries w.locks) (k, a) found in
    (back.0.0, in_get w.locks back.0.0 back.0.1 back.1.0 ∙ ap Some (sym (ap (λ (x : ℕ × ℕ). x.0) back.1.1)))

-- the lock of an address is a lock of the log
pub in_locks : (w : LogValue) (a k : ℕ) → get w.locks a ≡ Some k → In k (log_locks w)
in_locks w a k is =
    let turned : List (ℕ × ℕ) = map (λ (p : ℕ × ℕ). (p.1, p.0)) (entries w.locks) in
    let there : In (k, a) turned = in_map (λ (p : ℕ × ℕ). (p.1, p.0)) (entries w.locks) (a, k)
    (get_in w.locks a k is) in
    let s = found_some turned k a there in
    in_map (λ (p : ℕ × ℕ). p.0) (entries (lock_map w)) (k, s.0)
    (get_in (lock_map w) k s.0 (get-from_entries nat_cmp_total turned k ∙ s.1))

fewer : (es : List (ℕ × ℕ)) → len (from_entries {R = nat_cmp} es) ≤ length es
fewer [] = omega (arith, len-empty nat_cmp ℕ)
fewer (e ∷ es) =
    let rest = fewer es in
    let m : Words = from_entries es in
    let more : len (insert m e.0 e.1) ≡ cond (contains_key m e.0) (len m) (len m + 1) =
    len-insert nat_cmp_total m e.0 e.1 in
    elim (both_bool (contains_key m e.0)) [
      | inl t ↦ omega (arith, rest, more, ap (λ b. cond b (len m) (len m + 1)) t)
      | inr f ↦ omega (arith, rest, more, ap (λ b. cond b (len m) (len m + 1)) f)
    ]

some_or : (o : Option ℕ) → (o ≡ None) ⊎ ((u : ℕ) × (o ≡ Some u))
some_or None = inl refl
some_or (Some u) = inr (u, refl)

key_there : (m n : Words) → ((a : ℕ) → get n a ≡ None → get m a ≡ None) → (q : ℕ) → In q (keys m) → In q (keys n)
key_there m n h q i =
    let s = map_in (λ (p : ℕ × ℕ). p.0) (entries m) q i in
    let v : ℕ = s.0.1 in
    let there : In (q, v) (entries m) = subst (λ k. In (k, v) (entries m)) (sym s.1.1) s.1.0 in
    let at_q : get m q ≡ Some v = in_get m q v there in
    elim (some_or (get n q)) [
      | inl none ↦ absurd (some_none v (sym at_q ∙ h q none))
      | inr some ↦ in_map (λ (p : ℕ × ℕ). p.0) (entries n) (q, some.0) (get_in n q some.0 some.1)
    ]

rising_keys : (m : Words) → Rising (λ x. x) (keys m)
rising_keys m = rising_map (λ (p : ℕ × ℕ). p.0) (λ p. p.0) (λ x. x) (λ x. refl) (entries m) (rising_entries m)

len_keys : (m : Words) → length (keys m) ≡ len m
len_keys m = length-map (entries m) (λ (p : ℕ × ℕ). p.0) ∙ sym (len-entries m)

-- two maps with the same keys have as many
pub same_len : (m n : Words) → ((a : ℕ) → (get m a ≡ None → get n a ≡ None) × (get n a ≡ None → get m a ≡ None)) →
    len m ≡ len n
same_len m n h =
    sym (len_keys m) ∙ ap length (rising_same (λ x. x) (keys m) (keys n) (rising_keys m) (rising_keys n)
    (key_there m n (λ a. (h a).1)) (key_there n m (λ a. (h a).0))) ∙ len_keys n

-- there are no more locks than addresses
pub locks_few : (w : LogValue) → SameAddresses w → length (log_locks w) ≤ len w.words
locks_few w h =
    let turned : List (ℕ × ℕ) = map (λ (p : ℕ × ℕ). (p.1, p.0)) (entries w.locks) in
    let turned_len : length turned ≡ length (entries w.locks) =
    length-map {B = ℕ × ℕ} (entries w.locks) (λ (p : ℕ × ℕ). (p.1, p.0)) in
    omega (arith, len_keys (lock_map w), fewer turned, turned_len, len-entries w.locks, same_len w.words w.locks h)
