-- A map of the library, seen as a finite map of its entries.
use Rattle.std.proofs.Common.{◌≡◌, cond, List, [], ◌∷◌, refl, ap, sym, ◌∙◌, arith}
use Rattle.std.specs.Prelude.{Some, length}
use Rattle.std.specs.declared.cmp.Ordering.{Ordering}
use Rattle.std.specs.declared.cmp.Ordering.TheVariants.{Less}
use Rattle.std.specs.Ordering.{is_eq, eq_by_cmp, match_ordering}
use Rattle.std.specs.Cmp.{IsTotalOrder, eq_by_cmp_equiv}
use Rattle.std.specs.List.{AllByRecursion}
use Rattle.std.specs.List.Sorted.{IsStrictlySortedBy}
use Rattle.std.specs.Map.{lookup, keys_of}
use Rattle.std.specs.BTreeMap as tree
use Rattle.std.specs.BTreeMap.{BTreeMap, is_at}
use Rattle.std.specs.FinMap as map
use Rattle.std.specs.FinMap.{IsAntisymmetric, find, put, from_entries, entries, get, insert, len}
use Rattle.std.proofs.lemmas.Map.Keys.{sorted_head, sorted_tail}

module _ {K X : Type 0} (R : K → K → Ordering) where
  -- both ways to look a key up
  find-lookup : (q : K) (es : List (K × X)) → find R q es ≡ lookup (is_at (R q)) es
  find-lookup q [] = refl
  find-lookup q (e ∷ es) = ap (cond (is_eq (R q e.0)) (Some e.1)) (find-lookup q es)

  -- an entry below all others goes to the front
  put_first : (k : K) (v : X) (es : List (K × X)) → AllByRecursion (λ y. R k y ≡ Less) (keys_of es) →
      put R k v es ≡ (k, v) ∷ es
  put_first k v [] h = refl
  put_first k v (e ∷ es) h = ap (λ o. match_ordering o ((k, v) ∷ e ∷ es) ((e.0, v) ∷ es) (e ∷ put R k v es)) h.0

no_length : {A : Type 0} (es : List A) → length es ≡ 0 → es ≡ []
no_length [] e = refl
no_length (x ∷ es) e = absurd (omega arith)

entries-empty : {K X : Type 0} (R : K → K → Ordering) → entries (map.empty {X = X} {R = R}) ≡ []
entries-empty {K} {X} R = no_length _ (sym (map.len-entries (map.empty {X = X} {R = R})) ∙ map.len-empty R X)

module _ {K X : Type 0} {R : K → K → Ordering} (o : IsTotalOrder R) where
  -- a list in order is the entries of its map
  entries_of_sorted : (es : List (K × X)) → IsStrictlySortedBy R (keys_of es) →
      entries (from_entries {R = R} es) ≡ es
  entries_of_sorted [] h = entries-empty R
  entries_of_sorted (e ∷ es) h =
      map.entries-insert o (from_entries es) e.0 e.1
      ∙ ap (put R e.0 e.1) (entries_of_sorted es (sorted_tail R e.0 (keys_of es) h))
      ∙ put_first R e.0 e.1 es (sorted_head R e.0 (keys_of es) h)

  pub get-tree : (m : BTreeMap K X) (q : K) → get (from_entries {R = R} m.entries) q ≡ tree.get R m q
  get-tree m q = map.get-from_entries o m.entries q ∙ find-lookup R q m.entries

  pub len-tree : (m : BTreeMap K X) → tree.IsOrdered R m → len (from_entries {R = R} m.entries) ≡ tree.btree_map_len m
  len-tree m h = map.len-entries _ ∙ ap length (entries_of_sorted m.entries h)

  module _ (same : IsAntisymmetric R) where
    pub insert-tree : (m n : BTreeMap K X) (k : K) (v : X) → tree.Updates R m n k (Some v)
        → from_entries {R = R} n.entries ≡ insert (from_entries m.entries) k v
    insert-tree m n k v u = map.same_map o same _ _ (λ q.
        get-tree n q ∙ u.0 q
        ∙ ap (λ b. cond b (Some v) (tree.get R m q)) ((eq_by_cmp_equiv o).symm k q)
        ∙ ap (cond (eq_by_cmp R q k) (Some v)) (sym (get-tree m q))
        ∙ sym (map.get-insert o (from_entries m.entries) k v q))
