-- An event has the same effect on a client in a region and on the same client in the list's core,
-- apart from the fields that a region does not keep.
use Rattle.std.proofs.Common.{◌≡◌, ◌≢◌, ◌⊎◌, ℕ, zero, suc, ◌+◌, ◌-◌, ◌≤◌, ◌<◌, Bool, true, false, cond, eqb, ltb, ◌&&◌}
use Rattle.std.proofs.Common.{inl}
use Rattle.std.proofs.Common.{inr, ⊎_elim, List, [], ◌∷◌, ◌++◌, append-nil, length, length-set, length-append, map, set}
use Rattle.std.proofs.Common.{get_or, refl, sym, ap, ◌∙◌, subst, arith}
use mathlib.Core.Option.{some, some-injective, some-ne-none}
use lib.ListN.{get_elem?}
use Rattle.std.proofs.lemmas.Bool.Decides.{nat_tests}
use Rattle.stm_core.specs.Client.{Attempt, Client, Record, Stamp, checked, locked, ticked, validated, version_of}
use Rattle.stm_core.specs.Client.{word_before, value_fetched, writes_to, before, inserted, merged, RecordLaw}
use Rattle.stm_core.specs.Event.{Action, begin, check, lock, tick, validate, finish, Bounds, committed_by, stepping}
use Rattle.stm_core.specs.Event.{failing, read_too, holding, versioned, decides_at_once, won, passes, passing, after}
use Rattle.stm_core.specs.Event.{giving, fresh, taking, renewing, gone, opener, writer_record, reader_record}
use Rattle.stm_core.specs.Event.{with_ticks, marking, counting}
use Rattle.stm_core.specs.Guards.{may_act, IsLawful}
use Rattle.stm_core.specs.Core.{Core, found, left, stepped, are_gathered, others_gathered}
use Rattle.stm_core.proofs.Steps.{by_case}
use Rattle.stm_core.proofs.Lists.{at_set, set_here, set_else, in_range, only_one, clash, by_bool, at_longer}
use Rattle.stm_core.proofs.Renewing.{at_last, at_below}
use Rattle.stm_core.proofs.Renewals.{map_append}
use Rattle.stm_region.specs.Shown.{unplaced}
use Rattle.stm_region.specs.Traced.{unplaced_record, unplaced_attempt, Shuffled, none, both, swap, over}
use Rattle.stm_region.specs.Traced.{unplaced_client, IsShadow, Mirrors}

-- records in another order
as_is : (l : List Record) → Shuffled l l
as_is [] = none
as_is (x ∷ l) = both x (as_is l)

back : {l m : List Record} → Shuffled l m → Shuffled m l
back none = none
back (both r s) = both r (back s)
back (swap r x xs) = swap x r xs
back (over s t) = over (back t) (back s)

shuffled_map : {l m : List Record} → Shuffled l m → Shuffled (map unplaced_record l) (map unplaced_record m)
shuffled_map none = none
shuffled_map (both r s) = both (unplaced_record r) (shuffled_map s)
shuffled_map (swap r x xs) = swap (unplaced_record r) (unplaced_record x) (map unplaced_record xs)
shuffled_map (over s t) = over (shuffled_map s) (shuffled_map t)

shuffled_left : {l m : List Record} (k : List Record) → Shuffled l m → Shuffled (l ++ k) (m ++ k)
shuffled_left k none = as_is k
shuffled_left k (both r s) = both r (shuffled_left k s)
shuffled_left k (swap r x xs) = swap r x (xs ++ k)
shuffled_left k (over s t) = over (shuffled_left k s) (shuffled_left k t)

shuffled_right : (k : List Record) {l m : List Record} → Shuffled l m → Shuffled (k ++ l) (k ++ m)
shuffled_right [] s = s
shuffled_right (x ∷ k) s = both x (shuffled_right k s)

to_middle : (r : Record) (l m : List Record) → Shuffled (r ∷ (l ++ m)) (l ++ r ∷ m)
to_middle r [] m = as_is (r ∷ m)
to_middle r (x ∷ l) m = over (swap r x (l ++ m)) (both x (to_middle r l m))

inserted_shuffles : (r : Record) (l : List Record) → Shuffled (inserted r l) (r ∷ l)
inserted_shuffles r [] = as_is (r ∷ [])
inserted_shuffles r (x ∷ l) = by_case (λ b. Shuffled (cond b (r ∷ x ∷ l) (x ∷ inserted r l)) (r ∷ x ∷ l)) (before r x)
    (λ e. as_is (r ∷ x ∷ l)) (λ e. over (both x (inserted_shuffles r l)) (swap x r l))

merged_shuffles : (l m : List Record) → Shuffled (merged l m) (l ++ m)
merged_shuffles l [] = subst (Shuffled l) (sym (append-nil l)) (as_is l)
merged_shuffles l (y ∷ m) = over (merged_shuffles (inserted y l) m)
    (over (shuffled_left m (inserted_shuffles y l)) (to_middle y l m))

-- one more record, and two lists merged
inserted_mirrors : (r : Record) (l m : List Record) → Shuffled l (map unplaced_record m) →
    Shuffled (inserted (unplaced_record r) l) (map unplaced_record (inserted r m))
inserted_mirrors r l m s = over (inserted_shuffles (unplaced_record r) l)
    (over (both (unplaced_record r) s) (shuffled_map (back (inserted_shuffles r m))))

merged_mirrors : (l l' m m' : List Record) → Shuffled l (map unplaced_record l') → Shuffled m (map unplaced_record m') →
    Shuffled (merged l m) (map unplaced_record (merged l' m'))
merged_mirrors l l' m m' s t =
    over (merged_shuffles l m) (over (shuffled_left m s) (over (shuffled_right (map unplaced_record l') t)
    (subst (λ k. Shuffled k (map unplaced_record (merged l' m'))) (map_append unplaced_record l' m')
    (shuffled_map (back (merged_shuffles l' m'))))))

-- a step has the same effect on the fields of a client that a region keeps
module _ (t : Stamp) (lk : ℕ → ℕ) (n : ℕ) (rs : List Record) (w : Client)
    (s : Shuffled rs (map unplaced_record w.records)) where
  abbrev u : Stamp
  u = unplaced t.renewal

  abbrev v : Client
  v = unplaced_client rs w

  shadow_step : (e : Action) → IsShadow (after (unplaced t.renewal) lk e n (unplaced_client rs w)) (after t lk e n w)
  shadow_step (check a) =
      by_case (λ b. IsShadow (stepping (checked a (word_before w.attempt.last) n)
      (cond b (read_too a (value_fetched w.attempt.last) v) (failing v)))
      (stepping (checked a (word_before w.attempt.last) n)
      (cond b (read_too a (value_fetched w.attempt.last) w) (failing w)))) (eqb n (word_before w.attempt.last))
      (λ e. (refl, s)) (λ e. (refl, s))
  shadow_step (lock k) =
      by_case (λ b. IsShadow (stepping (locked k (word_before w.attempt.last) n)
      (cond b (holding k (version_of n) v) (failing v)))
      (stepping (locked k (word_before w.attempt.last) n) (cond b (holding k (version_of n) w) (failing w))))
      (eqb n (word_before w.attempt.last))
      (λ e. (refl, s)) (λ e. (refl, s))
  shadow_step (tick from tag writes) =
      let w0 : Client = versioned t (from + 1) tag writes w in
      let v0 : Client = versioned u (from + 1) tag writes v in
      by_case (λ b. IsShadow (with_ticks (w.attempt.ticks + 1) n
      (stepping (ticked from n) (cond b (won u (from + 1) tag writes v) v)))
      (with_ticks (w.attempt.ticks + 1) n (stepping (ticked from n) (cond b (won t (from + 1) tag writes w) w))))
      (eqb n from)
      (λ e. by_case (λ b. IsShadow (with_ticks (w.attempt.ticks + 1) n
      (stepping (ticked from n) (cond b (committed_by u v0) v0)))
      (with_ticks (w.attempt.ticks + 1) n (stepping (ticked from n) (cond b (committed_by t w0) w0))))
      (decides_at_once w0)
      (λ z. (refl, inserted_mirrors (writer_record t w0.attempt) rs w.records s)) (λ z. (refl, s)))
      (λ e. (refl, s))
  shadow_step (validate k) =
      let w0 : Client = counting w in
      let v0 : Client = counting v in
      by_case (λ b. IsShadow (marking (writes_to w.attempt.held k)
      (stepping (validated k n) (cond b (passing u v) (failing v))))
      (marking (writes_to w.attempt.held k) (stepping (validated k n) (cond b (passing t w) (failing w)))))
      (passes k n w)
      (λ e. by_case (λ b. IsShadow (marking (writes_to w.attempt.held k)
      (stepping (validated k n) (cond b (committed_by u v0) v0)))
      (marking (writes_to w.attempt.held k) (stepping (validated k n) (cond b (committed_by t w0) w0))))
      (eqb w0.attempt.passed (length w.attempt.reads))
      (λ z. (refl, inserted_mirrors (writer_record t w0.attempt) rs w.records s)) (λ z. (refl, s)))
      (λ e. (refl, s))
  shadow_step (finish tag) = (refl, inserted_mirrors (reader_record t tag w.attempt) rs w.records s)
  shadow_step begin = (refl, s)
  shadow_step _ = (refl, s)

pub shadow_after : (t : Stamp) (lk : ℕ → ℕ) (n : ℕ) (v w : Client) → IsShadow v w → (r : ℕ) → r ≡ t.renewal →
    (e : Action) → IsShadow (after (unplaced r) lk e n v) (after t lk e n w)
shadow_after t lk n v w s r q e = subst (λ m. IsShadow (after (unplaced m) lk e n v) (after t lk e n w)) (sym q)
    (subst (λ x. IsShadow (after (unplaced t.renewal) lk e n x) (after t lk e n w)) (sym s.0)
    (shadow_step t lk n v.records w s.1 e))

pub shadow_giving : (v w : Client) → IsShadow v w → IsShadow (giving v) (giving w)
shadow_giving v w s = ((λ i. giving (s.0 i)), s.1)

pub shadow_fresh : (v w : Client) → IsShadow v w → IsShadow (fresh v) (fresh w)
shadow_fresh v w s = ((λ i. fresh (s.0 i)), none)

pub shadow_renewing : (v w : Client) → IsShadow v w → IsShadow (renewing v) (renewing w)
shadow_renewing v w s = ((λ i. renewing (s.0 i)), s.1)

pub shadow_taking : (v w v' w' : Client) → IsShadow v w → IsShadow v' w' → IsShadow (taking v v') (taking w w')
shadow_taking v w v' w' s s' = (
  (λ i. taking (s.0 i) (s'.0 i)),
  merged_mirrors v.records w.records v'.records w'.records s.1 s'.1,
)

-- no step gathers a client
pub after_gathered : (t : Stamp) (lk : ℕ → ℕ) (e : Action) (n : ℕ) (v : Client) →
    (after t lk e n v).is_gathered ≡ v.is_gathered
after_gathered t lk (check a) n v = by_case (λ b. (stepping (checked a (word_before v.attempt.last) n)
    (cond b (read_too a (value_fetched v.attempt.last) v) (failing v))).is_gathered ≡ v.is_gathered)
    (eqb n (word_before v.attempt.last)) (λ _. refl) (λ _. refl)
after_gathered t lk (lock k) n v = by_case (λ b. (stepping (locked k (word_before v.attempt.last) n)
    (cond b (holding k (version_of n) v) (failing v))).is_gathered ≡ v.is_gathered) (eqb n (word_before v.attempt.last))
    (λ _. refl) (λ _. refl)
after_gathered t lk (tick f g w) n v =
    let w0 : Client = versioned t (f + 1) g w v in
    by_case (λ b. (stepping (ticked f n) (cond b (won t (f + 1) g w v) v)).is_gathered ≡ v.is_gathered) (eqb n f)
    (λ _. by_case (λ b. (stepping (ticked f n) (cond b (committed_by t w0) w0)).is_gathered ≡ v.is_gathered)
    (decides_at_once w0) (λ _. refl) (λ _. refl)) (λ _. refl)
after_gathered t lk (validate k) n v =
    let w0 : Client = counting v in
    by_case (λ b. (stepping (validated k n) (cond b (passing t v) (failing v))).is_gathered ≡ v.is_gathered)
    (passes k n v) (λ _. by_case (λ b. (stepping (validated k n) (cond b (committed_by t w0) w0)).is_gathered ≡
    v.is_gathered) (eqb w0.attempt.passed (length v.attempt.reads)) (λ _. refl) (λ _. refl)) (λ _. refl)
after_gathered t lk _ n v = refl

-- the clients of a region beside those of the list
unfoldable pub mirrors_set : (vs ws : List Client) (m : Mirrors vs ws) (i : ℕ) (v v' w w' : Client) →
    get_elem? vs i ≡ some v → get_elem? ws (m.number i) ≡ some w → IsShadow v' w' →
    (w'.is_gathered ≡ true → w' ≡ gone) → Mirrors (set vs i v') (set ws (m.number i) w')
mirrors_set vs ws m i v v' w w' at to s left = record {
  number = m.number;
  each = λ j o e. ⊎_elim
      (λ p. (
        w',
        subst (λ k. get_elem? (set ws (m.number i) w') (m.number k) ≡ some w') (sym p.0)
            (set_here ws (m.number i) w w' to),
        subst (λ x. IsShadow x w') p.1 s,
      ))
      (λ p. let q = m.each j o p.1 in (
        q.0,
        set_else ws (m.number i) (m.number j) w' q.0
            (λ z. p.0 (m.apart j i (in_range vs j o p.1) (in_range vs i v at) z)) q.1,
        q.2,
      )) (at_set vs i j v' o e);
  apart = λ j k l l' e. let size : length (set vs i v') ≡ length vs = length-set vs i v' in
      m.apart j k (omega (arith, size, l)) (omega (arith, size, l')) e;
  others = λ j x e. let size : length (set vs i v') ≡ length vs = length-set vs i v' in ⊎_elim
      (λ p. inr (i, (let l = in_range vs i v at in omega (arith, size, l)), sym p.0))
      (λ p. ⊎_elim (λ z. inl z) (λ q. inr (q.0, (let l = q.1 in omega (arith, size, l)), q.2)) (m.others j x p.1))
      (at_set ws (m.number i) j w' x e);
  are_gone = λ j x e z. ⊎_elim (λ p. sym p.1 ∙ left (ap (λ (y : Client). y.is_gathered) p.1 ∙ z))
      (λ p. m.are_gone j x p.1 z) (at_set ws (m.number i) j w' x e);
}

unfoldable pub mirrors_both : (vs ws : List Client) (m : Mirrors vs ws) (i j : ℕ) (v v' w w' x x' y y' : Client) →
    j ≢ i →
    get_elem? vs i ≡ some v → get_elem? ws (m.number i) ≡ some w → IsShadow v' w' →
    (w'.is_gathered ≡ true → w' ≡ gone) → get_elem? vs j ≡ some x → get_elem? ws (m.number j) ≡ some y →
    IsShadow x' y' → (y'.is_gathered ≡ true → y' ≡ gone)
    → Mirrors (set (set vs i v') j x') (set (set ws (m.number i) w') (m.number j) y')
unfolding mirrors_set
mirrors_both vs ws m i j v v' w w' x x' y y' ne at to s left at' to' s' left' =
    let first = mirrors_set vs ws m i v v' w w' at to s left in
    mirrors_set (set vs i v') (set ws (m.number i) w') first j x x' y y' (set_else vs i j v' x ne at')
    (set_else ws (m.number i) (m.number j) w' y (λ z. ne (m.apart j i (in_range vs j x at') (in_range vs i v at) z))
    to') s' left'

-- the numbers with one client more at the end of both lists
abbrev pub longer_number : List Client → List Client → (ℕ → ℕ) → ℕ → ℕ
longer_number vs ws number i = cond (ltb i (length vs)) (number i) (length ws)

pub longer_is : (vs ws : List Client) (number : ℕ → ℕ) (i : ℕ) → i < length vs →
    longer_number vs ws number i ≡ number i
longer_is vs ws number i l = let e : ltb i (length vs) ≡ true = grind (arith, nat_tests) in rw e refl

pub longer_new : (vs ws : List Client) (number : ℕ → ℕ) (i : ℕ) → length vs ≤ i →
    longer_number vs ws number i ≡ length ws
longer_new vs ws number i l = let e : ltb i (length vs) ≡ false = grind (arith, nat_tests) in rw e refl

-- no two clients have one number
pub longer_apart : (vs ws : List Client) (m : Mirrors vs ws) (v : Client) (i j : ℕ) → i < length (vs ++ v ∷ []) →
    j < length (vs ++ v ∷ []) → longer_number vs ws m.number i ≡ longer_number vs ws m.number j → i ≡ j
longer_apart vs ws m v = one
  where
    size : length (vs ++ v ∷ []) ≡ suc (length vs)
    size = length-append vs (v ∷ []) ∙ (let z : length vs + 1 ≡ suc (length vs) = omega arith in z)

    old : (i : ℕ) → i < length vs → cond (ltb i (length vs)) (m.number i) (length ws) ≡ m.number i
    old i l = longer_is vs ws m.number i l

    new : (i : ℕ) → length vs ≤ i → cond (ltb i (length vs)) (m.number i) (length ws) ≡ length ws
    new i l = longer_new vs ws m.number i l

    below : (i : ℕ) → i < length vs → m.number i < length ws
    below i l = let q = at_below vs i l in let p = m.each i q.0 q.1 in in_range ws (m.number i) p.0 p.1

    one : (i j : ℕ) → i < length (vs ++ v ∷ []) → j < length (vs ++ v ∷ []) →
        cond (ltb i (length vs)) (m.number i) (length ws) ≡ cond (ltb j (length vs)) (m.number j) (length ws) → i ≡ j
    one i j l l' e = by_bool (ltb i (length vs))
        (λ a. let l0 : i < length vs = grind (arith, nat_tests) in by_bool (ltb j (length vs))
        (λ b. let l1 : j < length vs = grind (arith, nat_tests) in m.apart i j l0 l1 (sym (old i l0) ∙ (e ∙ old j l1)))
        (λ b. let l1 : length vs ≤ j = grind (arith, nat_tests) in
        absurd (let p = below i l0 in let q = old i l0 in let r = new j l1 in omega (arith, p, q, r, e))))
        (λ a. let l0 : length vs ≤ i = grind (arith, nat_tests) in by_bool (ltb j (length vs))
        (λ b. let l1 : j < length vs = grind (arith, nat_tests) in
        absurd (let p = below j l1 in let q = old j l1 in let r = new i l0 in omega (arith, p, q, r, e)))
        (λ b. let l1 : length vs ≤ j = grind (arith, nat_tests) in let z = size in omega (arith, z, l, l', l0, l1)))

unfoldable pub mirrors_longer : (vs ws : List Client) → Mirrors vs ws → (v w : Client) → IsShadow v w →
    w.is_gathered ≡ false → Mirrors (vs ++ v ∷ []) (ws ++ w ∷ [])
mirrors_longer vs ws m v w s live = record {
  number = longer_number vs ws m.number;
  each = λ i o e. ⊎_elim
      (λ p. let q = m.each i o p in (
        q.0,
        subst (λ k. get_elem? (ws ++ w ∷ []) k ≡ some q.0)
            (sym (old i (in_range vs i o p))) (at_longer ws w q.0 (m.number i) q.1),
        q.2,
      ))
      (λ p. (
        w,
        subst (λ k. get_elem? (ws ++ w ∷ []) k ≡ some w) (sym (new i (let z = p.0 in omega (arith, z))))
            (end ws w),
        subst (λ x. IsShadow x w) p.1 s,
      )) (at_last vs v o i e);
  apart = longer_apart vs ws m v;
  others = λ j x e. ⊎_elim
      (λ p. ⊎_elim (λ z. inl z) (λ q. inr (
        q.0,
        (let a = size in let l = q.1 in omega (arith, a, l)),
        old q.0 q.1 ∙ q.2,
      )) (m.others j x p))
      (λ p. inr (
        length vs,
        (let a = size in omega (arith, a)),
        new (length vs) (Rattle.std.proofs.Common.le_refl _) ∙
            sym p.0,
      )) (at_last ws w x j e);
  are_gone = λ j x e z. ⊎_elim (λ p. m.are_gone j x p z) (λ p. clash (ap (λ (y : Client). y.is_gathered) p.1 ∙ z) live)
      (at_last ws w x j e);
}
  where
    size : length (vs ++ v ∷ []) ≡ suc (length vs)
    size = length-append vs (v ∷ []) ∙ (let z : length vs + 1 ≡ suc (length vs) = omega arith in z)

    old : (i : ℕ) → i < length vs → cond (ltb i (length vs)) (m.number i) (length ws) ≡ m.number i
    old i l = longer_is vs ws m.number i l

    new : (i : ℕ) → length vs ≤ i → cond (ltb i (length vs)) (m.number i) (length ws) ≡ length ws
    new i l = longer_new vs ws m.number i l

    end : (l : List Client) (x : Client) → get_elem? (l ++ x ∷ []) (length l) ≡ some x
    end [] x = refl
    end (y ∷ l) x = end l x

pub mirrors_opening : Mirrors (opener ∷ []) (opener ∷ [])
mirrors_opening = record {
  number = λ i. i;
  each = λ i v e. let z : opener ≡ v = only_one opener i v e in (v, e, subst (λ x. IsShadow x x) z (refl, none));
  apart = λ i j l l' e. e;
  others = λ j w e. inr (j, in_range (opener ∷ []) j w e, refl);
  are_gone = λ j w e z. let q : opener ≡ w = only_one opener j w e in
      clash (ap (λ (y : Client). y.is_gathered) q ∙ z) refl;
}

-- after a renewal one client is out
unfoldable pub mirrors_renewed : (ws : List Client) (j : ℕ) (v w : Client) → get_elem? ws j ≡ some w → IsShadow v w →
    ((k : ℕ) (x : Client) → get_elem? ws k ≡ some x → k ≢ j → x ≡ gone) →
    Mirrors (renewing v ∷ []) (set ws j (renewing w))
mirrors_renewed ws j v w at s alone = record {
  number = λ i. j;
  each = λ i o e. let z : renewing v ≡ o = only_one (renewing v) i o e in
      (renewing w, set_here ws j w (renewing w) at, subst (λ x. IsShadow x (renewing w)) z (shadow_renewing v w s));
  apart = λ i k l l' e. omega (arith, l, l');
  others = λ k x e. ⊎_elim (λ p. inr (0, omega arith, sym p.0)) (λ p. inl (alone k x p.1 p.0))
      (at_set ws j k (renewing w) x e);
  are_gone = λ k x e z. ⊎_elim (λ p. clash (ap (λ (y : Client). y.is_gathered) p.1 ∙ z) refl) (λ p. alone k x p.1 p.0)
      (at_set ws j k (renewing w) x e);
}

-- the same clients have the same numbers
unfoldable pub mirrors_of : (vs us ws : List Client) → Mirrors vs ws → us ≡ vs → Mirrors us ws
mirrors_of vs us ws m e = record {
  number = m.number;
  each = λ i v at. m.each i v (subst (λ cs. get_elem? cs i ≡ some v) e at);
  apart = λ i j l l' q. m.apart i j (subst (λ cs. i < length cs) e l) (subst (λ cs. j < length cs) e l') q;
  others = λ j w at. subst (λ cs. (w ≡ gone) ⊎ ((i : ℕ) × (i < length cs) × (m.number i ≡ j))) (sym e)
      (m.others j w at);
  are_gone = m.are_gone;
}

-- a step depends on no field that a region does not keep
pub may_shadow : (lk : ℕ → ℕ) (b : Bounds) (e : Action) (t : Attempt) →
    may_act lk b e (unplaced_attempt t) ≡ may_act lk b e t
may_shadow lk b begin t = refl
may_shadow lk b _ t = refl

pub lawful_shadow : (lawful : RecordLaw) (e : Action) (t : Attempt) → IsLawful lawful e (unplaced_attempt t) →
    IsLawful lawful e t
lawful_shadow lawful begin t l = l
lawful_shadow lawful _ t l = l

-- a step has the same effect on the words
pub found_same : (lk : ℕ → ℕ) (d : Core) (cs : List Client) (n : ℕ) (p : List Record) (e : Action) →
    found lk (record d { clients = cs; events = n; past = p }) e ≡ found lk d e
found_same lk d cs n p begin = refl
found_same lk d cs n p _ = refl

abbrev pub WordsAfter : (ℕ → ℕ) → Core → List Client → ℕ → List Record → Stamp → Stamp → Action → ℕ → ℕ → Client →
    Client → Type 0
WordsAfter lk d cs n p u t e i j v w =
    let x : Core = stepped u lk e i v (record d { clients = cs; events = n; past = p }) in
    x ≡ record (stepped t lk e j w d) { clients = x.clients; events = x.events; past = x.past }

pub words_same : (lk : ℕ → ℕ) (d : Core) (cs : List Client) (n : ℕ) (p : List Record) (u t : Stamp) (e : Action)
    (i j : ℕ) (rs : List Record) (w : Client) → WordsAfter lk d cs n p u t e i j (unplaced_client rs w) w
words_same lk d cs n p u t begin i j rs w = refl
words_same lk d cs n p u t _ i j rs w = refl

pub both_true : (a b : Bool) → a ≡ true → b ≡ true → (a && b) ≡ true
both_true true b p q = q
both_true false b p q = p

pub others_are : (l : List Client) (i : ℕ) → ((j : ℕ) (w : Client) → get_elem? l j ≡ some w → j ≢ i →
    w.is_gathered ≡ true) → others_gathered l i ≡ true
others_are [] i f = refl
others_are (x ∷ l) zero f = all l (λ j w e. f (suc j) w e (λ z. omega arith))
  where
    all : (l : List Client) → ((j : ℕ) (w : Client) → get_elem? l j ≡ some w → w.is_gathered ≡ true) →
        are_gathered l ≡ true
    all [] g = refl
    all (y ∷ l) g = both_true y.is_gathered (are_gathered l) (g 0 y refl) (all l (λ j w e. g (suc j) w e))
others_are (x ∷ l) (suc i) f = both_true x.is_gathered (others_gathered l i) (f 0 x refl (λ z. omega arith))
    (others_are l i (λ j w e n. f (suc j) w e (λ z. n (omega arith))))

pub value_there : (l : List Client) (i : ℕ) (w : Client) → get_elem? l i ≡ some w → get_or l i gone ≡ w
value_there [] i w e = absurd (some-ne-none w (sym e))
value_there (x ∷ l) zero w e = some-injective x w e
value_there (x ∷ l) (suc i) w e = value_there l i w e
