-- A map by its parts.
use Rattle.std.proofs.Common.{◌≡◌, ◌≢◌, ◌⊎◌, inl, inr, ℕ, zero, suc, ◌+◌, ◌-◌, ◌*◌, ◌/◌, ◌%◌, ◌==◌, ◌<◌, ◌≤◌, Bool}
use Rattle.std.proofs.Common.{true, false, cond, List, [], ◌∷◌, ◌++◌, Option, Some, None, Result, Ok, Err, IfOk, IfSome}
use Rattle.std.proofs.Common.{is_some, refl, ap, sym, subst, ◌∙◌, arith}
use Rattle.std.proofs.lemmas.Bool.Decides.{nat_tests}
use Rattle.std.specs.Prelude.{T, sum_by, map}
use Rattle.std.specs.Option.{option_map_or, option_map}
use Rattle.std.specs.Ordering.{nat_cmp, eq_by_cmp}
use Rattle.std.specs.Cmp.{nat_cmp_total, unsigned_tied, unsigned_ties}
use Rattle.std.specs.FinMap as fin
use Rattle.std.specs.FinMap.{FinMap, find, is_sorted, nat_cmp-IsAntisymmetric}
use Rattle.std.specs.declared.rc.Rc.{Rc}
use Rattle.std.specs.declared.alloc.Global.{Global}
use Rattle.std.proofs.lemmas.List.Sums.{sum_by-cons, sum_by-append}
use Rattle.vac_model.proofs.Views.{entries-empty}
use Rattle.vac_model.proofs.Sums.{first, second, find_below, sum-insert, sum-remove, remove_missing, len_pushed}
use Rattle.vac_model.proofs.Sums.{len_inserted, len_removed}
use Rattle.vac_sequential.specs.declared.tries.Kids.{Kids}
use Rattle.vac_sequential.specs.declared.tries.Parts.{Parts}
use Rattle.vac_sequential.specs.Tries.{Link, value_in, map_in, spread, first_entry, woven, weave, map_of, TellsEmpty}
use Rattle.vac_sequential.specs.Tries.{TellsSame, IsSummedUp, EntryAdds, child_of, swapped, with_value}
use Rattle.vac_sequential.specs.Tries.{parts_of, depth_of, depth_in}

-- the test of two ids of one digit, and of two digits
same_ids : (q r d : ℕ) → (4 * q + 1 + d == 4 * r + 1 + d) ≡ (q == r)
same_ids q r d = grind (arith, nat_tests)

other_ids : (q r d e : ℕ) → d < 4 → e < 4 → d ≢ e → (4 * q + 1 + d == 4 * r + 1 + e) ≡ false
other_ids q r d e l m n = grind (arith, nat_tests)

not_first : (q d : ℕ) → (0 == 4 * q + 1 + d) ≡ false
not_first q d = grind (arith, nat_tests)

not_first' : (q d : ℕ) → (4 * q + 1 + d == 0) ≡ false
not_first' q d = grind (arith, nat_tests)

same_tie : (q r d : ℕ) → eq_by_cmp nat_cmp (4 * q + 1 + d) (4 * r + 1 + d) ≡ eq_by_cmp nat_cmp q r
same_tie q r d = unsigned_tied (4 * q + 1 + d) (4 * r + 1 + d) ∙ same_ids q r d ∙ unsigned_ties q r

other_tie : (q r d e : ℕ) → d < 4 → e < 4 → d ≢ e → eq_by_cmp nat_cmp (4 * q + 1 + d) (4 * r + 1 + e) ≡ false
other_tie q r d e l m n = unsigned_tied (4 * q + 1 + d) (4 * r + 1 + e) ∙ other_ids q r d e l m n

first_tie : (q d : ℕ) → eq_by_cmp nat_cmp 0 (4 * q + 1 + d) ≡ false
first_tie q d = unsigned_tied 0 (4 * q + 1 + d) ∙ not_first q d

first_tie' : (q d : ℕ) → eq_by_cmp nat_cmp (4 * q + 1 + d) 0 ≡ false
first_tie' q d = unsigned_tied (4 * q + 1 + d) 0 ∙ not_first' q d

-- an id is 0, or has a digit
pub id_parts : (k : ℕ) → k ≢ 0 → 4 * ((k - 1) / 4) + 1 + (k - 1) % 4 ≡ k
id_parts k n = omega arith

digit_less : (k : ℕ) → k % 4 < 4
digit_less k = omega arith

-- what holds of a value on success
pub if_ok : {X E : Type 0} (P Q : X → Type 0) → ((x : X) → P x → Q x) → (r : Result X E) → IfOk r P → IfOk r Q
if_ok P Q f (Ok x) h = f x h
if_ok P Q f (Err e) h = tt

none_or_more : (k : ℕ) → (k ≡ 0) ⊎ (k ≢ 0)
none_or_more zero = inl refl
none_or_more (suc k) = inr (λ e. omega arith)

pub by_id : (P : ℕ → Type 0) → P 0 → ((q d : ℕ) → d < 4 → P (4 * q + 1 + d)) → (k : ℕ) → P k
by_id P none more k =
    elim (none_or_more k) [
      | inl z ↦ subst P (sym z) none
      | inr n ↦ subst P (id_parts k n) (more ((k - 1) / 4) ((k - 1) % 4) (digit_less (k - 1)))
    ]

pub by_digit : (P : ℕ → Type 0) → P 0 → P 1 → P 2 → P 3 → (d : ℕ) → d < 4 → P d
by_digit P a b c e zero l = a
by_digit P a b c e (suc zero) l = b
by_digit P a b c e (suc (suc zero)) l = c
by_digit P a b c e (suc (suc (suc zero))) l = e
by_digit P a b c e (suc (suc (suc (suc d)))) l = absurd (let k : suc (suc (suc (suc d))) < 4 = l in omega arith)

same_or_not : (d e : ℕ) → (((d == e) ≡ true) × (d ≡ e)) ⊎ (((d == e) ≡ false) × (d ≢ e))
same_or_not d e =
    elim (d == e) as (λ b. (d == e) ≡ b → (((d == e) ≡ true) × (d ≡ e)) ⊎ (((d == e) ≡ false) × (d ≢ e))) [
      | true ↦ λ h. inl (h, grind (arith, nat_tests))
      | false ↦ λ h. inr (h, grind (arith, nat_tests))
    ] refl

module _ {V : Type 0} where
  find_same : (q d : ℕ) (es : List (ℕ × V)) → find nat_cmp (4 * q + 1 + d) (spread d es) ≡ find nat_cmp q es
  find_same q d [] = refl
  find_same q d (e ∷ es) = rw (same_tie q e.0 d) (ap (cond (eq_by_cmp nat_cmp q e.0) (Some e.1)) (find_same q d es))

  find_other : (q d e : ℕ) (es : List (ℕ × V)) → d < 4 → e < 4 → d ≢ e →
      find nat_cmp (4 * q + 1 + d) (spread e es) ≡ None
  find_other q d e [] l m n = refl
  find_other q d e (x ∷ es) l m n = rw (other_tie q x.0 d e l m n) (find_other q d e es l m n)

  find_none : (d : ℕ) (es : List (ℕ × V)) → find nat_cmp 0 (spread d es) ≡ None
  find_none d [] = refl
  find_none d (x ∷ es) = rw (first_tie x.0 d) (find_none d es)

  skip : (q : ℕ) (es fs : List (ℕ × V)) → find nat_cmp q es ≡ None → find nat_cmp q (es ++ fs) ≡ find nat_cmp q fs
  skip q [] fs h = refl
  skip q (e ∷ es) fs h =
      elim (eq_by_cmp nat_cmp q e.0) as (λ b. cond b (Some e.1) (find nat_cmp q es) ≡ None →
      cond b (Some e.1) (find nat_cmp q (es ++ fs)) ≡ find nat_cmp q fs) [
        | true ↦ λ i. absurd (some_none e.1 i)
        | false ↦ λ i. skip q es fs i
      ] h
    where
      some_none : (v : V) → Some v ≡ None → ⊥
      some_none v e = cc

  stop : (q : ℕ) (es fs : List (ℕ × V)) → find nat_cmp q fs ≡ None → find nat_cmp q (es ++ fs) ≡ find nat_cmp q es
  stop q [] fs h = h
  stop q (e ∷ es) fs h = ap (cond (eq_by_cmp nat_cmp q e.0) (Some e.1)) (stop q es fs h)

  find_first : (q d : ℕ) (v : Option (Rc V Global)) → find nat_cmp (4 * q + 1 + d) (first_entry v) ≡ None
  find_first q d None = refl
  find_first q d (Some rc) = rw (first_tie' q d) refl

  find_value : (v : Option (Rc V Global)) → find nat_cmp 0 (first_entry v) ≡ value_in v
  find_value None = refl
  find_value (Some rc) = refl

  none_at_0 : (a b c e : FinMap nat_cmp V) → find nat_cmp 0 (spread 0 (fin.entries a) ++
      (spread 1 (fin.entries b) ++ (spread 2 (fin.entries c) ++ spread 3 (fin.entries e)))) ≡ None
  none_at_0 a b c e =
      skip 0 (spread 0 (fin.entries a)) (spread 1 (fin.entries b) ++
      (spread 2 (fin.entries c) ++ spread 3 (fin.entries e))) (find_none 0 (fin.entries a))
      ∙ skip 0 (spread 1 (fin.entries b)) (spread 2 (fin.entries c) ++ spread 3 (fin.entries e))
      (find_none 1 (fin.entries b))
      ∙ skip 0 (spread 2 (fin.entries c)) (spread 3 (fin.entries e)) (find_none 2 (fin.entries c)) ∙
      find_none 3 (fin.entries e)

  module _ (v : Option (Rc V Global)) (a b c e : FinMap nat_cmp V) where
    seen : (k : ℕ) → fin.get (weave v a b c e) k ≡ find nat_cmp k (woven v a b c e)
    seen k = fin.get-from_entries nat_cmp_total (woven v a b c e) k

    pub at_none : fin.get (weave v a b c e) 0 ≡ value_in v
    at_none =
        seen 0
        ∙ stop 0 (first_entry v) (spread 0 (fin.entries a) ++
        (spread 1 (fin.entries b) ++ (spread 2 (fin.entries c) ++ spread 3 (fin.entries e))))
        (none_at_0 a b c e)
        ∙ find_value v

    pub at_zero : (q : ℕ) → fin.get (weave v a b c e) (4 * q + 1 + 0) ≡ fin.get a q
    at_zero q =
        let k = 4 * q + 1 + 0 in
        seen k ∙ skip k _ _ (find_first q 0 v)
        ∙ stop k (spread 0 (fin.entries a)) _ (skip k _ _ (find_other q 0 1 (fin.entries b) (omega arith) (omega arith)
        (omega arith)) ∙ skip k _ _ (find_other q 0 2 (fin.entries c) (omega arith) (omega arith) (omega arith)) ∙
        find_other q 0 3 (fin.entries e) (omega arith) (omega arith) (omega arith))
        ∙ find_same q 0 (fin.entries a) ∙ sym (fin.get-entries a q)

    pub at_one : (q : ℕ) → fin.get (weave v a b c e) (4 * q + 1 + 1) ≡ fin.get b q
    at_one q =
        let k = 4 * q + 1 + 1 in
        seen k ∙ skip k _ _ (find_first q 1 v)
        ∙ skip k _ _ (find_other q 1 0 (fin.entries a) (omega arith) (omega arith) (omega arith))
        ∙ stop k (spread 1 (fin.entries b)) _ (skip k _ _ (find_other q 1 2 (fin.entries c) (omega arith) (omega arith)
        (omega arith)) ∙ find_other q 1 3 (fin.entries e) (omega arith) (omega arith) (omega arith))
        ∙ find_same q 1 (fin.entries b) ∙ sym (fin.get-entries b q)

    pub at_two : (q : ℕ) → fin.get (weave v a b c e) (4 * q + 1 + 2) ≡ fin.get c q
    at_two q =
        let k = 4 * q + 1 + 2 in
        seen k ∙ skip k _ _ (find_first q 2 v)
        ∙ skip k _ _ (find_other q 2 0 (fin.entries a) (omega arith) (omega arith) (omega arith))
        ∙ skip k _ _ (find_other q 2 1 (fin.entries b) (omega arith) (omega arith) (omega arith))
        ∙ stop k (spread 2 (fin.entries c)) _ (find_other q 2 3 (fin.entries e) (omega arith) (omega arith)
        (omega arith))
        ∙ find_same q 2 (fin.entries c) ∙ sym (fin.get-entries c q)

    pub at_three : (q : ℕ) → fin.get (weave v a b c e) (4 * q + 1 + 3) ≡ fin.get e q
    at_three q =
        let k = 4 * q + 1 + 3 in
        seen k ∙ skip k _ _ (find_first q 3 v)
        ∙ skip k _ _ (find_other q 3 0 (fin.entries a) (omega arith) (omega arith) (omega arith))
        ∙ skip k _ _ (find_other q 3 1 (fin.entries b) (omega arith) (omega arith) (omega arith))
        ∙ skip k _ _ (find_other q 3 2 (fin.entries c) (omega arith) (omega arith) (omega arith))
        ∙ find_same q 3 (fin.entries e) ∙ sym (fin.get-entries e q)

  pub at_digit : (p : Parts V) (d q : ℕ) → d < 4 → fin.get (map_of p) (4 * q + 1 + d) ≡ fin.get
      (map_in (child_of p.kids d)) q
  at_digit p d q l =
      by_digit (λ d. fin.get (map_of p) (4 * q + 1 + d) ≡ fin.get (map_in (child_of p.kids d)) q)
      (at_zero p.value (map_in p.kids.zero) (map_in p.kids.one) (map_in p.kids.two) (map_in p.kids.three) q)
      (at_one p.value (map_in p.kids.zero) (map_in p.kids.one) (map_in p.kids.two) (map_in p.kids.three) q)
      (at_two p.value (map_in p.kids.zero) (map_in p.kids.one) (map_in p.kids.two) (map_in p.kids.three) q)
      (at_three p.value (map_in p.kids.zero) (map_in p.kids.one) (map_in p.kids.two) (map_in p.kids.three) q)
      d l

  -- the maps after another one was put in the place of a digit's
  abbrev with_child : Kids V → ℕ → Link V → Kids V
  with_child k d t = swapped (record (swapped k d) { zero = t }) d

  child_after : (k : Kids V) (t : Link V) (d e : ℕ) → d < 4 → e < 4 → child_of (with_child k d t) e ≡ cond (d == e) t
      (child_of k e)
  child_after k t d e l m =
      by_digit (λ d. child_of (with_child k d t) e ≡ cond (d == e) t (child_of k e))
      (by_digit (λ e. child_of (with_child k 0 t) e ≡ cond (0 == e) t (child_of k e)) refl refl refl refl e m)
      (by_digit (λ e. child_of (with_child k 1 t) e ≡ cond (1 == e) t (child_of k e)) refl refl refl refl e m)
      (by_digit (λ e. child_of (with_child k 2 t) e ≡ cond (2 == e) t (child_of k e)) refl refl refl refl e m)
      (by_digit (λ e. child_of (with_child k 3 t) e ≡ cond (3 == e) t (child_of k e)) refl refl refl refl e m)
      d l

  -- n has this at an id, and elsewhere what m has
  abbrev pub Writes : FinMap nat_cmp V → FinMap nat_cmp V → ℕ → Option V → Type 0
  Writes m n k o = (q : ℕ) → fin.get n q ≡ cond (eq_by_cmp nat_cmp q k) o (fin.get m q)

  written : (m n : FinMap nat_cmp V) (k : ℕ) (o : Option V) → Writes m n k o → n ≡ with_value m k o
  written m n k None h = fin.same_map nat_cmp_total nat_cmp-IsAntisymmetric n (fin.remove m k)
      (λ q. h q ∙ sym (fin.get-remove nat_cmp_total m k q))
  written m n k (Some x) h = fin.same_map nat_cmp_total nat_cmp-IsAntisymmetric n (fin.insert m k x)
      (λ q. h q ∙ sym (fin.get-insert nat_cmp_total m k x q))

  writes : (m : FinMap nat_cmp V) (k : ℕ) (o : Option V) → Writes m (with_value m k o) k o
  writes m k None q = fin.get-remove nat_cmp_total m k q
  writes m k (Some x) q = fin.get-insert nat_cmp_total m k x q

  -- at the first id
  write_first : (p : Parts V) (o : Option (Rc V Global)) →
      Writes (map_of p) (map_of (record p { value = o })) 0 (value_in o)
  write_first p o =
      by_id (λ k. fin.get (map_of (record p { value = o })) k ≡ cond (eq_by_cmp nat_cmp k 0) (value_in o)
      (fin.get (map_of p) k))
      (at_none o (map_in p.kids.zero) (map_in p.kids.one) (map_in p.kids.two) (map_in p.kids.three) ∙
      ap (λ b. cond b (value_in o) (fin.get (map_of p) 0)) (sym (unsigned_tied 0 0)))
      (λ q d l. at_digit (record p { value = o }) d q l ∙ sym (at_digit p d q l) ∙
      ap (λ b. cond b (value_in o) (fin.get (map_of p) (4 * q + 1 + d))) (sym (first_tie' q d)))

  -- at an id of a digit
  write_child : (p : Parts V) (t : Link V) (q d : ℕ) (o : Option V) → d < 4 →
      Writes (map_in (child_of p.kids d)) (map_in t) q o
      → Writes (map_of p) (map_of (record p { kids = with_child p.kids d t })) (4 * q + 1 + d) o
  write_child p t q d o l h =
      let n : Parts V = record p { kids = with_child p.kids d t } in
      by_id (λ k. fin.get (map_of n) k ≡ cond (eq_by_cmp nat_cmp k (4 * q + 1 + d)) o (fin.get (map_of p) k))
      (at_none n.value (map_in n.kids.zero) (map_in n.kids.one) (map_in n.kids.two) (map_in n.kids.three)
      ∙ sym (at_none p.value (map_in p.kids.zero) (map_in p.kids.one) (map_in p.kids.two) (map_in p.kids.three))
      ∙ ap (λ b. cond b o (fin.get (map_of p) 0)) (sym (first_tie q d)))
      (λ r e m.
      at_digit n e r m ∙ ap (λ (c : Link V). fin.get (map_in c) r) (child_after p.kids t d e l m)
      ∙ elim (same_or_not d e) [
        | inl s ↦
            ap (λ b. fin.get (map_in (cond b t (child_of p.kids e))) r) s.0 ∙ h r
            ∙ ap (λ b. cond b o (fin.get (map_in (child_of p.kids d)) r)) (sym (same_tie r q d))
            ∙ ap (cond (eq_by_cmp nat_cmp (4 * r + 1 + d) (4 * q + 1 + d)) o) (sym (at_digit p d r l))
            ∙ ap (λ x. cond (eq_by_cmp nat_cmp (4 * r + 1 + x) (4 * q + 1 + d)) o (fin.get (map_of p) (4 * r + 1 + x)))
            s.1
        | inr s ↦
            ap (λ b. fin.get (map_in (cond b t (child_of p.kids e))) r) s.0
            ∙ sym (at_digit p e r m)
            ∙ ap (λ b. cond b o (fin.get (map_of p) (4 * r + 1 + e))) (sym (other_tie r q e d m l (λ i. s.1 (sym i))))
      ])

  -- a map of no parts
  pub no_parts : weave {V = V} None fin.empty fin.empty fin.empty fin.empty ≡ fin.empty
  no_parts = fin.same_map nat_cmp_total nat_cmp-IsAntisymmetric _ fin.empty
      (by_id (λ k. fin.get (weave {V = V} None fin.empty fin.empty fin.empty fin.empty) k ≡ fin.get
      (fin.empty {R = nat_cmp}) k)
      (at_none None fin.empty fin.empty fin.empty fin.empty ∙ sym (fin.get-empty nat_cmp 0))
      (λ q d l. by_digit (λ d. fin.get (weave {V = V} None fin.empty fin.empty fin.empty fin.empty)
      (4 * q + 1 + d) ≡ fin.get (fin.empty {R = nat_cmp}) q)
      (at_zero None fin.empty fin.empty fin.empty fin.empty q) (at_one None fin.empty fin.empty fin.empty fin.empty q)
      (at_two None fin.empty fin.empty fin.empty fin.empty q)
      (at_three None fin.empty fin.empty fin.empty fin.empty q) d l
      ∙ fin.get-empty nat_cmp q ∙ sym (fin.get-empty nat_cmp (4 * q + 1 + d))))

  -- a value at the first id, or none
  pub set_first : (m : FinMap nat_cmp V) (p : Parts V) (o : Option (Rc V Global)) (k : ℕ) → k ≡ 0 → map_of p ≡ m →
      map_of (record p { value = o }) ≡ with_value m k (value_in o)
  set_first m p o k z e = written (map_of p) (map_of (record p { value = o })) 0 (value_in o) (write_first p o) ∙
      ap (λ n. with_value n 0 (value_in o)) e ∙ ap (λ n. with_value m n (value_in o)) (sym z)

  -- the map of a digit stands at 0
  swapped_first : (k : Kids V) (d : ℕ) → d < 4 → (swapped k d).zero ≡ child_of k d
  swapped_first k d l = by_digit (λ d. (swapped k d).zero ≡ child_of k d) refl refl refl refl d l

  -- a value at an id of a digit, or none
  pub set_child : (m : FinMap nat_cmp V) (p : Parts V) (t : Link V) (o : Option V) (k : ℕ) → k ≢ 0 → map_of p ≡ m
      → map_in t ≡ with_value (map_in (swapped p.kids ((k - 1) % 4)).zero) ((k - 1) / 4) o →
      map_of (record p { kids = swapped (record (swapped p.kids ((k - 1) % 4)) { zero = t }) ((k - 1) % 4) })
      ≡ with_value m k o
  set_child m p t o k n e h =
      let d = (k - 1) % 4 in
      let q = (k - 1) / 4 in
      let first : (swapped p.kids d).zero ≡ child_of p.kids d = swapped_first p.kids d (digit_less (k - 1)) in
      written (map_of p) (map_of (record p { kids = with_child p.kids d t })) (4 * q + 1 + d) o
      (write_child p t q d o (digit_less (k - 1)) (subst (λ n. Writes (map_in (child_of p.kids d)) n q o)
      (sym (h ∙ ap (λ (l : Link V). with_value (map_in l) q o) first)) (writes (map_in (child_of p.kids d)) q o)))
      ∙ ap (λ i. with_value (map_of p) i o) (id_parts k n) ∙ ap (λ i. with_value i k o) e

  -- a child of a map that is empty is empty
  pub empty_child : (p : Parts V) → map_of p ≡ fin.empty → (d : ℕ) → d < 4 → map_in (child_of p.kids d) ≡ fin.empty
  empty_child p e d l = fin.same_map nat_cmp_total nat_cmp-IsAntisymmetric (map_in (child_of p.kids d)) fin.empty
      (λ q. sym (at_digit p d q l) ∙ ap (λ n. fin.get n (4 * q + 1 + d)) e ∙ fin.get-empty nat_cmp (4 * q + 1 + d) ∙
      sym (fin.get-empty nat_cmp q))

  none_some : (x : V) → None ≡ Some x → ⊥
  none_some x e = cc

  -- a map with a value is not empty
  pub full_value : (p : Parts V) → is_some p.value ≡ true → TellsEmpty (map_of p) false
  full_value p h e = go p.value h (sym (at_none p.value (map_in p.kids.zero) (map_in p.kids.one) (map_in p.kids.two)
      (map_in p.kids.three)) ∙ ap (λ n. fin.get n 0) e ∙ fin.get-empty nat_cmp 0)
    where
      go : (v : Option (Rc V Global)) → is_some v ≡ true → value_in v ≡ None → ⊥
      go None h e = let no : false ≡ true = h in cc
      go (Some rc) h e = none_some rc.value (sym e)

  -- a map with a child that is not empty is not empty
  pub full_child : (p : Parts V) (d : ℕ) → d < 4 → TellsEmpty (map_in (child_of p.kids d)) false →
      TellsEmpty (map_of p) false
  full_child p d l h e = h (empty_child p e d l)

  -- a map with no value, whose children are empty
  pub empty_parts : (p : Parts V) → is_some p.value ≡ false → map_in p.kids.zero ≡ fin.empty →
      map_in p.kids.one ≡ fin.empty → map_in p.kids.two ≡ fin.empty → map_in p.kids.three ≡ fin.empty → map_of p ≡
      fin.empty
  empty_parts p h a b c e = ap (λ v. map_of (record p { value = v })) (go p.value h) ∙ rw (a, b, c, e) no_parts
    where
      go : (v : Option (Rc V Global)) → is_some v ≡ false → v ≡ None
      go None h = refl
      go (Some rc) h = absurd (let no : true ≡ false = h in cc)

  -- what both parts of one map have
  pub same_values : (p q : Parts V) → map_of p ≡ map_of q → value_in p.value ≡ value_in q.value
  same_values p q e =
      sym (at_none p.value (map_in p.kids.zero) (map_in p.kids.one) (map_in p.kids.two) (map_in p.kids.three))
      ∙ ap (λ n. fin.get n 0) e
      ∙ at_none q.value (map_in q.kids.zero) (map_in q.kids.one) (map_in q.kids.two) (map_in q.kids.three)

  pub same_children : (p q : Parts V) → map_of p ≡ map_of q → (d : ℕ) → d < 4 →
      map_in (child_of p.kids d) ≡ map_in (child_of q.kids d)
  same_children p q e d l =
      fin.same_map nat_cmp_total nat_cmp-IsAntisymmetric (map_in (child_of p.kids d)) (map_in (child_of q.kids d))
      (λ i. sym (at_digit p d i l) ∙ ap (λ n. fin.get n (4 * i + 1 + d)) e ∙ at_digit q d i l)

  first_by_value : (v w : Option (Rc V Global)) → value_in v ≡ value_in w → first_entry v ≡ first_entry w
  first_by_value None None e = refl
  first_by_value None (Some w) e = absurd (none_some w.value e)
  first_by_value (Some v) None e = absurd (none_some v.value (sym e))
  first_by_value (Some v) (Some w) e = ap (λ o. option_map_or (λ x. (0, x) ∷ []) o []) e

  -- maps of the same parts
  pub same_parts : (p q : Parts V) → value_in p.value ≡ value_in q.value → map_in p.kids.zero ≡ map_in q.kids.zero →
      map_in p.kids.one ≡ map_in q.kids.one
      → map_in p.kids.two ≡ map_in q.kids.two → map_in p.kids.three ≡ map_in q.kids.three → map_of p ≡ map_of q
  same_parts p q v a b c e =
      ap (λ (f : List (ℕ × V)). fin.from_entries {R = nat_cmp}
      (f ++ (spread 0 (fin.entries (map_in p.kids.zero)) ++ (spread 1 (fin.entries (map_in p.kids.one)) ++
      (spread 2 (fin.entries (map_in p.kids.two)) ++ spread 3 (fin.entries (map_in p.kids.three)))))))
      (first_by_value p.value q.value v)
      ∙ ap (λ m. weave q.value m (map_in p.kids.one) (map_in p.kids.two) (map_in p.kids.three)) a
      ∙ ap (λ m. weave q.value (map_in q.kids.zero) m (map_in p.kids.two) (map_in p.kids.three)) b
      ∙ ap (λ m. weave q.value (map_in q.kids.zero) (map_in q.kids.one) m (map_in p.kids.three)) c
      ∙ ap (weave q.value (map_in q.kids.zero) (map_in q.kids.one) (map_in q.kids.two)) e

  -- no two entries have one id
  abbrev Distinct : List (ℕ × V) → Type 0
  Distinct [] = Unit {0}
  Distinct (e ∷ es) = (find nat_cmp e.0 es ≡ None) × Distinct es

  distinct_spread : (d : ℕ) (es fs : List (ℕ × V)) → T (is_sorted nat_cmp es) →
      ((q : ℕ) → find nat_cmp (4 * q + 1 + d) fs ≡ None) → Distinct fs → Distinct (spread d es ++ fs)
  distinct_spread d [] fs s none h = h
  distinct_spread d (e ∷ es) fs s none h = (
    skip (4 * e.0 + 1 + d) (spread d es) fs (find_same e.0 d es ∙ find_below nat_cmp e.0 es (first _ _ s)) ∙ none e.0,
    distinct_spread d es fs (second _ _ s) none h,
  )

  distinct_sorted : (d : ℕ) (m : FinMap nat_cmp V) → Distinct (spread d (fin.entries m))
  distinct_sorted d m = subst Distinct (append_nil (spread d (fin.entries m)))
      (distinct_spread d (fin.entries m) [] (fin.entries_sorted m) (λ q. refl) tt)
    where
      append_nil : (xs : List (ℕ × V)) → xs ++ [] ≡ xs
      append_nil [] = refl
      append_nil (x ∷ xs) = ap (λ r. x ∷ r) (append_nil xs)

  distinct_woven : (v : Option (Rc V Global)) (a b c e : FinMap nat_cmp V) → Distinct (woven v a b c e)
  distinct_woven v a b c e =
      go v
    where
      three : Distinct (spread 2 (fin.entries c) ++ spread 3 (fin.entries e))
      three = distinct_spread 2 (fin.entries c) (spread 3 (fin.entries e)) (fin.entries_sorted c)
          (λ q. find_other q 2 3 (fin.entries e) (omega arith) (omega arith) (omega arith)) (distinct_sorted 3 e)

      two : Distinct (spread 1 (fin.entries b) ++ (spread 2 (fin.entries c) ++ spread 3 (fin.entries e)))
      two = distinct_spread 1 (fin.entries b) _ (fin.entries_sorted b)
          (λ q. skip (4 * q + 1 + 1) (spread 2 (fin.entries c)) (spread 3 (fin.entries e))
          (find_other q 1 2 (fin.entries c) (omega arith) (omega arith) (omega arith)) ∙
          find_other q 1 3 (fin.entries e) (omega arith) (omega arith) (omega arith)) three

      one : Distinct (spread 0 (fin.entries a) ++ (spread 1 (fin.entries b) ++
          (spread 2 (fin.entries c) ++ spread 3 (fin.entries e))))
      one = distinct_spread 0 (fin.entries a) _ (fin.entries_sorted a)
          (λ q. skip (4 * q + 1 + 0) (spread 1 (fin.entries b)) (spread 2 (fin.entries c) ++ spread 3 (fin.entries e))
          (find_other q 0 1 (fin.entries b) (omega arith) (omega arith) (omega arith))
          ∙ skip (4 * q + 1 + 0) (spread 2 (fin.entries c)) (spread 3 (fin.entries e))
          (find_other q 0 2 (fin.entries c) (omega arith) (omega arith) (omega arith)) ∙
          find_other q 0 3 (fin.entries e) (omega arith) (omega arith) (omega arith)) two

      go : (v : Option (Rc V Global)) → Distinct (woven v a b c e)
      go None = one
      go (Some rc) = (none_at_0 a b c e, one)

  module _ (f : V → ℕ) where
    sum_entries : (es : List (ℕ × V)) → Distinct es → sum_by f (fin.values (fin.from_entries {R = nat_cmp} es)) ≡ sum_by
        (λ e. f e.1) es
    sum_entries [] h = ap (λ es. sum_by f (map (λ e. e.1) es)) (entries-empty nat_cmp)
    sum_entries (e ∷ es) h =
        let law = sum-insert nat_cmp_total nat_cmp-IsAntisymmetric f (fin.from_entries es) e.0 e.1 in
        let none : option_map_or f (fin.get (fin.from_entries {R = nat_cmp} es) e.0) 0 ≡ 0 =
        ap (λ o. option_map_or f o 0) (fin.get-from_entries nat_cmp_total es e.0 ∙ h.0) in
        let rest = sum_entries es h.1 in
        omega (arith, law, none, rest, sum_by-cons (λ (x : ℕ × V). f x.1) e es)

    sum_spread : (d : ℕ) (es : List (ℕ × V)) → sum_by (λ e. f e.1) (spread d es) ≡ sum_by f (map (λ e. e.1) es)
    sum_spread d [] = refl
    sum_spread d (e ∷ es) =
        sum_by-cons (λ (x : ℕ × V). f x.1) (4 * e.0 + 1 + d, e.1) (spread d es) ∙ ap (λ n. f e.1 + n) (sum_spread d es)
        ∙ sym (sum_by-cons f e.1 (map (λ e. e.1) es))

    sum_append : (xs ys : List (ℕ × V)) → sum_by (λ e. f e.1) (xs ++ ys) ≡ sum_by (λ e. f e.1) xs + sum_by
        (λ e. f e.1) ys
    sum_append xs ys = sum_by-append (λ (x : ℕ × V). f x.1) xs ys

    sum_first : (v : Option (Rc V Global)) → sum_by (λ e. f e.1) (first_entry v) ≡ option_map_or f (value_in v) 0
    sum_first None = refl
    sum_first (Some rc) = omega arith

    -- the sum over a map, by its parts
    pub sum_woven : (v : Option (Rc V Global)) (a b c e : FinMap nat_cmp V) → sum_by f (fin.values (weave v a b c e))
        ≡ option_map_or f (value_in v) 0 + (sum_by f (fin.values a) +
        (sum_by f (fin.values b) + (sum_by f (fin.values c) + sum_by f (fin.values e))))
    sum_woven v a b c e =
        let all = sum_entries (woven v a b c e) (distinct_woven v a b c e) in
        let p = sum_append (first_entry v) (spread 0 (fin.entries a) ++
        (spread 1 (fin.entries b) ++ (spread 2 (fin.entries c) ++ spread 3 (fin.entries e)))) in
        let q = sum_append (spread 0 (fin.entries a)) (spread 1 (fin.entries b) ++
        (spread 2 (fin.entries c) ++ spread 3 (fin.entries e))) in
        let r = sum_append (spread 1 (fin.entries b)) (spread 2 (fin.entries c) ++ spread 3 (fin.entries e)) in
        let s = sum_append (spread 2 (fin.entries c)) (spread 3 (fin.entries e)) in
        omega (
          arith,
          all,
          p,
          q,
          r,
          s,
          sum_first v,
          sum_spread 0 (fin.entries a),
          sum_spread 1 (fin.entries b),
          sum_spread 2 (fin.entries c),
          sum_spread 3 (fin.entries e),
        )

  -- whether there is an entry, where the last child tells it
  pub last_empty : (p : Parts V) → is_some p.value ≡ false → map_in p.kids.zero ≡ fin.empty →
      map_in p.kids.one ≡ fin.empty → map_in p.kids.two ≡ fin.empty
      → (b : Bool) → TellsEmpty (map_in p.kids.three) b → TellsEmpty (map_of p) b
  last_empty p v a b c true h = empty_parts p v a b c h
  last_empty p v a b c false h = full_child p 3 (omega arith) h

  -- whether two are the same, where the last children tell it
  pub last_same : (m n : FinMap nat_cmp V) (p q : Parts V) → m ≡ map_of p → n ≡ map_of q →
      value_in p.value ≡ value_in q.value → map_in p.kids.zero ≡ map_in q.kids.zero
      → map_in p.kids.one ≡ map_in q.kids.one → map_in p.kids.two ≡ map_in q.kids.two → (b : Bool) →
      TellsSame (map_in p.kids.three) (map_in q.kids.three) b → TellsSame m n b
  last_same m n p q l r v a b c true h = l ∙ same_parts p q v a b c h ∙ sym r
  last_same m n p q l r v a b c false h = λ e. h (same_children p q (sym l ∙ e ∙ r) 3 (omega arith))

  -- a value of a sum that is small is small
  pub part_small : (f : V → ℕ) (v : Option (Rc V Global)) (x : V) (rest bound : ℕ) → value_in v ≡ Some x →
      option_map_or f (value_in v) 0 + rest < bound → f x < bound
  part_small f v x rest bound e h = let here : option_map_or f (value_in v) 0 ≡ f x = ap (λ o. option_map_or f o 0) e in
      omega (arith, here, h)

  -- the numbers of a map after a value was put
  counted_put : (f : V → ℕ) (m : FinMap nat_cmp V) (k : ℕ) (x : V) (len weight one old : ℕ) →
      IsSummedUp f m len weight → EntryAdds f (fin.get m k) one old
      → (one ≤ len + 1) × (old ≤ weight + f x) × IsSummedUp f (fin.insert m k x) (len + 1 - one) (weight + f x - old)
  counted_put f m k x len weight one old c h =
      elim (fin.get m k) as (λ o. fin.get m k ≡ o → EntryAdds f o one old →
      (one ≤ len + 1) × (old ≤ weight + f x) × IsSummedUp f (fin.insert m k x) (len + 1 - one)
      (weight + f x - old)) [
        | None ↦ λ e h.
            let longer = len_pushed nat_cmp_total nat_cmp-IsAntisymmetric m k x e in
            let sums = sum-insert nat_cmp_total nat_cmp-IsAntisymmetric f m k x in
            let nothing : option_map_or f (fin.get m k) 0 ≡ 0 = ap (λ o. option_map_or f o 0) e in
            (omega (arith, h), omega (arith, h), (omega (arith, c, h, longer), omega (arith, c, h, sums, nothing)))
        | Some y ↦ λ e h.
            let as_long = len_inserted nat_cmp_total nat_cmp-IsAntisymmetric m k x y e in
            let sums = sum-insert nat_cmp_total nat_cmp-IsAntisymmetric f m k x in
            let there : option_map_or f (fin.get m k) 0 ≡ f y = ap (λ o. option_map_or f o 0) e in (
              omega (arith, h),
              omega (arith, c, h, sums, there),
              (omega (arith, c, h, as_long), omega (arith, c, h, sums, there)),
            )
      ] refl h

  -- the same after a value was removed
  counted_cut : (f : V → ℕ) (m : FinMap nat_cmp V) (k : ℕ) (len weight one old : ℕ) → IsSummedUp f m len weight →
      EntryAdds f (fin.get m k) one old
      → (one ≤ len) × (old ≤ weight) × IsSummedUp f (fin.remove m k) (len - one) (weight - old)
  counted_cut f m k len weight one old c h =
      elim (fin.get m k) as (λ o. fin.get m k ≡ o → EntryAdds f o one old →
      (one ≤ len) × (old ≤ weight) × IsSummedUp f (fin.remove m k) (len - one) (weight - old)) [
        | None ↦ λ e h.
            let same : fin.remove m k ≡ m = remove_missing nat_cmp_total nat_cmp-IsAntisymmetric m k e in
            let as_long : fin.len (fin.remove m k) ≡ fin.len m = ap fin.len same in
            let as_much : sum_by f (fin.values (fin.remove m k)) ≡ sum_by f (fin.values m) =
            ap (λ n. sum_by f (fin.values n)) same in
            (omega (arith, h), omega (arith, h), (omega (arith, c, h, as_long), omega (arith, c, h, as_much)))
        | Some y ↦ λ e h.
            let shorter = len_removed nat_cmp_total nat_cmp-IsAntisymmetric m k y e in
            let sums = sum-remove nat_cmp_total nat_cmp-IsAntisymmetric f m k y e in (
              omega (arith, c, h, shorter),
              omega (arith, c, h, sums),
              (omega (arith, c, h, shorter), omega (arith, c, h, sums)),
            )
      ] refl h

  -- the same after a change
  pub counted_change : (f : V → ℕ) (m : FinMap nat_cmp V) (k : ℕ) (o : Option V) (len weight one old more new : ℕ) →
      IsSummedUp f m len weight → EntryAdds f (fin.get m k) one old → EntryAdds f o more new
      → (one ≤ len + more) × (old ≤ weight + new) ×
      IsSummedUp f (with_value m k o) (len + more - one) (weight + new - old)
  counted_change f m k None len weight one old more new c h a =
      let cut = counted_cut f m k len weight one old c h in (
        omega (arith, cut.0, a.0),
        omega (arith, cut.1, a.1),
        (omega (arith, cut.2.0, a.0), omega (arith, cut.2.1, a.1)),
      )
  counted_change f m k (Some x) len weight one old more new c h a =
      let put = counted_put f m k x len weight one old c h in (
        omega (arith, put.0, a.0),
        omega (arith, put.1, a.1),
        (omega (arith, put.2.0, a.0), omega (arith, put.2.1, a.1)),
      )

  -- the value of an id above 0, by the digit's map
  pub get_kid : (m : FinMap nat_cmp V) (v : Option (Rc V Global)) (k : Kids V) (id : ℕ) → id ≢ 0 →
      m ≡ map_of (parts_of v k)
      → fin.get (map_in (child_of k ((id - 1) % 4))) ((id - 1) / 4) ≡ fin.get m id
  get_kid m v k id n e =
      sym (at_digit (parts_of v k) ((id - 1) % 4) ((id - 1) / 4) (digit_less (id - 1)))
      ∙ ap (fin.get (map_of (parts_of v k))) (id_parts id n) ∙ ap (λ w. fin.get w id) (sym e)

  -- the same, where that map stands at 0
  pub get_swapped : (p : Parts V) (m : FinMap nat_cmp V) (id : ℕ) → id ≢ 0 → map_of p ≡ m
      → fin.get (map_in (swapped p.kids ((id - 1) % 4)).zero) ((id - 1) / 4) ≡ fin.get m id
  get_swapped p m id n e =
      ap (λ (l : Link V). fin.get (map_in l) ((id - 1) / 4)) (swapped_first p.kids ((id - 1) % 4) (digit_less (id - 1)))
      ∙ get_kid m p.value p.kids id n (sym e)

  -- the value at 0
  pub get_first : (m : FinMap nat_cmp V) (v : Option (Rc V Global)) (k : Kids V) → m ≡ map_of (parts_of v k) →
      value_in v ≡ fin.get m 0
  get_first m v k e = sym (at_none v (map_in k.zero) (map_in k.one) (map_in k.two) (map_in k.three)) ∙
      ap (λ w. fin.get w 0) (sym e)

  -- no value, and four maps with no entry
  pub four_empty : (a b c e : FinMap nat_cmp V) → a ≡ fin.empty → b ≡ fin.empty → c ≡ fin.empty → e ≡ fin.empty →
      weave None a b c e ≡ fin.empty
  four_empty a b c e p q r s = rw (p, q, r, s) no_parts

  -- each digit's map is less deep
  pub kid_depths : (k : Kids V) → (depth_in k.zero < depth_of k) × (depth_in k.one < depth_of k) ×
      (depth_in k.two < depth_of k) × (depth_in k.three < depth_of k)
  kid_depths k = (grind arith, grind arith, grind arith, grind arith)

  -- a change of a value that is there
  pub changed_there : (m n : FinMap nat_cmp V) (k : ℕ) (f : V → V) → n ≡ with_value m k (option_map f (fin.get m k))
      → IfSome (fin.get m k) (λ x. n ≡ fin.insert m k (f x))
  changed_there m n k f =
      elim (fin.get m k) as (λ o. n ≡ with_value m k (option_map f o) → IfSome o (λ x. n ≡ fin.insert m k (f x))) [
        | None ↦ λ e. tt
        | Some x ↦ λ e. e
      ]
