-- A map of the library, seen as a finite map of its entries.
use Rattle.std.proofs.lemmas.Bool.Decides.{nat_tests}
use Rattle.std.proofs.Common.{◌≡◌, true, false, cond, List, [], ◌∷◌, map, refl, ap, sym, subst, ◌∙◌, arith}
use Rattle.std.specs.Prelude.{Option, Some, None, IsSome, is_some, Result, Ok, Err, OnErr, unwrap_or, length}
use Rattle.std.specs.declared.cmp.Ordering.{Ordering}
use Rattle.std.specs.declared.cmp.Ordering.TheVariants.{Less}
use Rattle.std.specs.Ordering.{is_eq, eq_by_cmp, match_ordering}
use Rattle.std.specs.Cmp.{IsTotalOrder, eq_by_cmp_equiv}
use Rattle.std.specs.List.{AllByRecursion}
use Rattle.std.specs.List.Sorted.{IsStrictlySortedBy}
use Rattle.std.specs.Map.{lookup, keys_of}
use Rattle.std.specs.BTreeMap as tree
use Rattle.std.specs.BTreeMap.{BTreeMap, insert_entry, is_at}
use Rattle.std.specs.FinMap as map
use Rattle.std.specs.FinMap.{FinMap, IsAntisymmetric, find, put, from_entries, entries, get, insert, remove, len}
use Rattle.std.specs.FinMap.{values}
use Rattle.std.proofs.lemmas.Map.Keys.{sorted_head, sorted_tail}

-- an entry cannot exist and be missing at once
pub not_some : {X : Type 0} (o : Option X) → o ≡ None → IsSome o → ⊥
not_some o e h = let same : false ≡ true = subst IsSome e h in cc

-- a fact that holds anyway holds on an error
pub on_err : {T E : Type 0} (P : Type 0) (r : Result T E) → P → OnErr r P
on_err P (Ok x) p = tt
on_err P (Err e) p = p

module _ {K X : Type 0} (R : K → K → Ordering) where
  -- both ways to look a key up
  pub find-lookup : (q : K) (es : List (K × X)) → find R q es ≡ lookup (is_at (R q)) es
  find-lookup q [] = refl
  find-lookup q (e ∷ es) = ap (cond (is_eq (R q e.0)) (Some e.1)) (find-lookup q es)

  -- both ways to insert an entry agree
  pub put-insert_entry : (k : K) (v : X) (es : List (K × X)) → put R k v es ≡ insert_entry R es k v
  put-insert_entry k v [] = refl
  put-insert_entry k v (e ∷ es) = grind (arith, nat_tests, put-insert_entry k v es)

  -- an entry below all others goes to the front
  put_first : (k : K) (v : X) (es : List (K × X)) → AllByRecursion (λ y. R k y ≡ Less) (keys_of es) →
      put R k v es ≡ (k, v) ∷ es
  put_first k v [] h = refl
  put_first k v (e ∷ es) h = ap (λ o. match_ordering o ((k, v) ∷ e ∷ es) ((e.0, v) ∷ es) (e ∷ put R k v es)) h.0

no_length : {A : Type 0} (es : List A) → length es ≡ 0 → es ≡ []
no_length [] e = refl
no_length (x ∷ es) e = absurd (omega arith)

pub entries-empty : {K X : Type 0} (R : K → K → Ordering) → entries (map.empty {X = X} {R = R}) ≡ []
entries-empty {K} {X} R = no_length _ (sym (map.len-entries (map.empty {X = X} {R = R})) ∙ map.len-empty R X)

module _ {K X : Type 0} {R : K → K → Ordering} (o : IsTotalOrder R) where
  -- a sorted list is the list of entries of its map
  pub entries_of_sorted : (es : List (K × X)) → IsStrictlySortedBy R (keys_of es) →
      entries (from_entries {R = R} es) ≡ es
  entries_of_sorted [] h = entries-empty R
  entries_of_sorted (e ∷ es) h =
      map.entries-insert o (from_entries es) e.0 e.1
      ∙ ap (put R e.0 e.1) (entries_of_sorted es (sorted_tail R e.0 (keys_of es) h))
      ∙ put_first R e.0 e.1 es (sorted_head R e.0 (keys_of es) h)

  pub get-tree : (m : BTreeMap K X) (q : K) → get (from_entries {R = R} m.entries) q ≡ tree.get R m q
  get-tree m q = map.get-from_entries o m.entries q ∙ find-lookup R q m.entries

  pub len-tree : (m : BTreeMap K X) → tree.IsOrdered R m → len (from_entries {R = R} m.entries) ≡ tree.btree_map_len m
  len-tree m h = map.len-entries _ ∙ ap length (entries_of_sorted m.entries h)

  pub values-tree : (m : BTreeMap K X) → tree.IsOrdered R m → values (from_entries {R = R} m.entries) ≡ tree.values m
  values-tree m h = ap (map (λ e. e.1)) (entries_of_sorted m.entries h)

  -- the values of a map that is seen as v
  pub values_seen : (m : BTreeMap K X) (v : FinMap R X) → tree.IsOrdered R m → from_entries m.entries ≡ v →
      values v ≡ tree.values m
  values_seen m v h e = sym (ap values e) ∙ values-tree m h

  -- the look-up in a map that is seen as v
  pub get_seen : (m : BTreeMap K X) (v : FinMap R X) (q : K) → from_entries m.entries ≡ v → get v q ≡ tree.get R m q
  get_seen m v q e = ap (λ n. get n q) (sym e) ∙ get-tree m q

  module _ (same : IsAntisymmetric R) where
    pub insert-tree : (m n : BTreeMap K X) (k : K) (v : X) → tree.Updates R m n k (Some v)
        → from_entries {R = R} n.entries ≡ insert (from_entries m.entries) k v
    insert-tree m n k v u = map.same_map o same _ _ (λ q.
        get-tree n q ∙ u.0 q
        ∙ ap (λ b. cond b (Some v) (tree.get R m q)) ((eq_by_cmp_equiv o).symm k q)
        ∙ ap (cond (eq_by_cmp R q k) (Some v)) (sym (get-tree m q))
        ∙ sym (map.get-insert o (from_entries m.entries) k v q))

    pub remove-tree : (m n : BTreeMap K X) (k : K) → tree.Updates R m n k None
        → from_entries {R = R} n.entries ≡ remove (from_entries m.entries) k
    remove-tree m n k u = map.same_map o same _ _ (λ q.
        get-tree n q ∙ u.0 q
        ∙ ap (λ b. cond b None (tree.get R m q)) ((eq_by_cmp_equiv o).symm k q)
        ∙ ap (cond (eq_by_cmp R q k) None) (sym (get-tree m q))
        ∙ sym (map.get-remove o (from_entries m.entries) k q))

    -- n is m after w was written at a key of m
    pub write-tree : (m n : BTreeMap K X) (k : K) (w old : X) → tree.WritesThrough R (R k) m w n →
        tree.get R m k ≡ Some old
        → from_entries {R = R} n.entries ≡ insert (from_entries m.entries) k w
    write-tree m n k w old h there = insert-tree m n k w (h.3 (ap is_some there))

    -- as `write-tree`, for a map that is seen as v
    pub write_seen : (m n : BTreeMap K X) (v : FinMap R X) (k : K) (w old : X) → from_entries m.entries ≡ v →
        tree.WritesThrough R (R k) m w n
        → tree.get R m k ≡ Some old → from_entries {R = R} n.entries ≡ insert v k w
    write_seen m n v k w old e h there = write-tree m n k w old h there ∙ ap (λ u. insert u k w) e

  -- both look-ups find the same
  pub same_found : (m : BTreeMap K X) (v : FinMap R X) (k : K) (x old : X) → from_entries m.entries ≡ v →
      get v k ≡ Some x → tree.get R m k ≡ Some old → old ≡ x
  same_found m v k x old e h there = ap (λ f. unwrap_or f x) (sym there ∙ sym (get_seen m v k e) ∙ h)
