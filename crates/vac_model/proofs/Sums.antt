-- Sums over the values of a finite map, and induction over finite maps.
use Rattle.std.proofs.lemmas.Bool.Decides.{nat_tests}
use Rattle.std.proofs.Common.{◌≡◌, ◌≢◌, ◌⊎◌, inl, inr, ℕ, ◌+◌, ◌*◌, ◌≤◌, Bool, true, false, cond, List, [], ◌∷◌, refl}
use Rattle.std.proofs.Common.{ap, sym, subst, ◌∙◌, arith}
use Rattle.std.specs.Prelude.{T, ◌&&◌, Option, Some, None, sum_by, unwrap_or, is_some}
use Rattle.std.specs.Option.{option_map, option_map_or}
use Rattle.std.specs.declared.cmp.Ordering.{Ordering}
use Rattle.std.specs.declared.cmp.Ordering.TheVariants.{Less, Equal, Greater}
use Rattle.std.specs.Ordering.{is_eq, is_lt, eq_by_cmp}
use Rattle.std.specs.Cmp.{IsTotalOrder, tied_itself}
use Rattle.std.specs.List.{AllByRecursion}
use Rattle.std.specs.List.Sorted.{IsStrictlySortedBy}
use Rattle.std.specs.Map.{lookup, keys_of, values_of}
use Rattle.std.specs.BTreeMap.{insert_entry, is_at}
use Rattle.std.specs.FinMap as map
use Rattle.std.specs.FinMap.{FinMap, IsAntisymmetric, find, is_sorted, from_entries, entries, get, insert, remove, len}
use Rattle.std.specs.FinMap.{values, empty}
use Rattle.std.proofs.lemmas.Map.Entries.{sum_by-insert_entry}
use Rattle.vac_model.proofs.Views.{find-lookup, put-insert_entry, entries-empty}

pub first : (a b : Bool) → T (a && b) → T a
first true b p = tt
first false b p = p

pub second : (a b : Bool) → T (a && b) → T b
second true b p = p
second false b p = absurd p

less : (o : Ordering) → T (is_lt o) → o ≡ Less
less Less p = refl
less Equal p = absurd p
less Greater p = absurd p

equal : (o : Ordering) → is_eq o ≡ true → o ≡ Equal
equal Less p = absurd (let h : false ≡ true = p in cc)
equal Equal p = refl
equal Greater p = absurd (let h : false ≡ true = p in cc)

or_zero : {X : Type 0} (f : X → ℕ) (o : Option X) → unwrap_or (option_map f o) 0 ≡ option_map_or f o 0
or_zero f None = refl
or_zero f (Some x) = refl

module _ {K X : Type 0} (R : K → K → Ordering) where
  -- the key is below all keys of the list
  abbrev pub below_all : K → List (K × X) → Bool
  below_all x [] = true
  below_all x (e ∷ es) = is_lt (R x e.0) && below_all x es

  below : (k : K) (es : List (K × X)) → T (below_all k es) → AllByRecursion (λ y. R k y ≡ Less) (keys_of es)
  below k [] h = tt
  below k (e ∷ es) h = (less _ (first _ _ h), below k es (second _ _ h))

  sorted : (es : List (K × X)) → T (is_sorted R es) → IsStrictlySortedBy R (keys_of es)
  unfolding IsStrictlySortedBy
  sorted [] h = tt
  sorted (e ∷ es) h = (below e.0 es (first _ _ h), sorted es (second _ _ h))

  pub find_below : (k : K) (es : List (K × X)) → T (below_all k es) → find R k es ≡ None
  find_below k [] h = refl
  find_below k (e ∷ es) h = ap (λ o. cond (is_eq o) (Some e.1) (find R k es)) (less _ (first _ _ h)) ∙
      find_below k es (second _ _ h)

module _ {K : Type 0} {R : K → K → Ordering} (o : IsTotalOrder R) (same : IsAntisymmetric R) where
  -- two keys are one or not
  pub either_key : (q k : K) → (q ≡ k) ⊎ (q ≢ k)
  either_key q k = elim (eq_by_cmp R q k) as (λ b. eq_by_cmp R q k ≡ b → (q ≡ k) ⊎ (q ≢ k)) [
    | true ↦ λ e. inl (same q k (equal _ e))
    | false ↦ λ e. inr (λ is. let tied : eq_by_cmp R q k ≡ true =
        subst (λ x. eq_by_cmp R q x ≡ true) is (ap is_eq (tied_itself o q)) in
        let never : true ≡ false = sym tied ∙ e in cc)
  ] refl

  -- the test of two keys that differ
  pub apart_test : (q k : K) → q ≢ k → eq_by_cmp R q k ≡ false
  apart_test q k apart = grind (arith, nat_tests, equal)

module _ {K X : Type 0} {R : K → K → Ordering} (o : IsTotalOrder R) (same : IsAntisymmetric R) where
  -- a look-up after an insertion, at the same key and at another
  pub get_here : (m : FinMap R X) (k : K) (v : X) → get (insert m k v) k ≡ Some v
  get_here m k v = map.get-insert o m k v k ∙ ap (λ r. cond (is_eq r) (Some v) (get m k)) (tied_itself o k)

  -- a finite map is made from its entries
  made : (m : FinMap R X) → from_entries (entries m) ≡ m
  made m = map.same_map o same _ _ (λ q. map.get-from_entries o (entries m) q ∙ sym (map.get-entries m q))

  made_up : (P : FinMap R X → Type 0) → P empty
      → ((m : FinMap R X) (k : K) (v : X) → get m k ≡ None → P m → P (insert m k v))
      → (es : List (K × X)) → T (is_sorted R es) → P (from_entries es)
  made_up P none more [] h = none
  made_up P none more (e ∷ es) h =
      more (from_entries es) e.0 e.1 (map.get-from_entries o es e.0 ∙ find_below R e.0 es (first _ _ h))
      (made_up P none more es (second _ _ h))

  -- a property that holds of the empty map, and of each map with one more entry, holds of all maps
  pub by_entries : (P : FinMap R X → Type 0) → P empty
      → ((m : FinMap R X) (k : K) (v : X) → get m k ≡ None → P m → P (insert m k v)) → (m : FinMap R X) → P m
  by_entries P none more m = subst P (made m) (made_up P none more (entries m) (map.entries_sorted m))

  -- a sum after an entry was put
  pub sum-insert : (f : X → ℕ) (m : FinMap R X) (k : K) (v : X)
      → sum_by f (values (insert m k v)) + option_map_or f (get m k) 0 ≡ sum_by f (values m) + f v
  sum-insert f m k v =
      let there : entries (insert m k v) ≡ insert_entry R (entries m) k v =
      map.entries-insert o m k v ∙ put-insert_entry R k v (entries m) in
      let looked : get m k ≡ lookup (is_at (R k)) (entries m) = map.get-entries m k ∙ find-lookup R k (entries m) in
      let laws = sum_by-insert_entry f o (entries m) k v (sorted R (entries m) (map.entries_sorted m)) in
      let left : sum_by f (values (insert m k v)) ≡ sum_by f (values_of (insert_entry R (entries m) k v)) =
      ap (λ es. sum_by f (values_of es)) there in
      let old : option_map_or f (get m k) 0 ≡ unwrap_or (option_map f (lookup (is_at (R k)) (entries m))) 0 =
      ap (λ e. option_map_or f e 0) looked ∙ sym (or_zero f (lookup (is_at (R k)) (entries m))) in
      rw (left, old) laws

  -- putting a removed entry back gives the map again
  pub insert-remove : (m : FinMap R X) (k : K) (v : X) → get m k ≡ Some v → insert (remove m k) k v ≡ m
  insert-remove m k v h = map.same_map o same _ _ (λ q.
      map.get-insert o (remove m k) k v q
      ∙ ap (cond (eq_by_cmp R q k) (Some v)) (map.get-remove o m k q)
      ∙ elim (eq_by_cmp R q k) as (λ b. eq_by_cmp R q k ≡ b → cond b (Some v) (cond b None (get m q)) ≡ get m q) [
        | true ↦ λ e. sym h ∙ ap (get m) (sym (same q k (equal _ e)))
        | false ↦ λ e. refl
      ] refl)

  pub remove_missing : (m : FinMap R X) (k : K) → get m k ≡ None → remove m k ≡ m
  remove_missing m k h = map.same_map o same _ _ (λ q.
      map.get-remove o m k q
      ∙ elim (eq_by_cmp R q k) as (λ b. eq_by_cmp R q k ≡ b → cond b None (get m q) ≡ get m q) [
        | true ↦ λ e. sym h ∙ ap (get m) (sym (same q k (equal _ e)))
        | false ↦ λ e. refl
      ] refl)

  pub get_removed : (m : FinMap R X) (k : K) → get (remove m k) k ≡ None
  get_removed m k = map.get-remove o m k k ∙ ap (λ r. cond (is_eq r) None (get m k)) (tied_itself o k)

  -- a sum after an entry was removed
  pub sum-remove : (f : X → ℕ) (m : FinMap R X) (k : K) (v : X) → get m k ≡ Some v
      → sum_by f (values (remove m k)) + f v ≡ sum_by f (values m)
  sum-remove f m k v h = grind (arith, nat_tests, sum-insert f (remove m k) k v, get_removed m k, insert-remove m k v h)

  -- putting an entry that exists changes nothing
  pub insert_same : (m : FinMap R X) (k : K) (v : X) → get m k ≡ Some v → insert m k v ≡ m
  insert_same m k v h = map.same_map o same _ _ (λ q.
      map.get-insert o m k v q
      ∙ elim (eq_by_cmp R q k) as (λ b. eq_by_cmp R q k ≡ b → cond b (Some v) (get m q) ≡ get m q) [
        | true ↦ λ e. sym h ∙ ap (get m) (sym (same q k (equal _ e)))
        | false ↦ λ e. refl
      ] refl)

  pub len_inserted : (m : FinMap R X) (k : K) (v w : X) → get m k ≡ Some w → len (insert m k v) ≡ len m
  len_inserted m k v w h = map.len-insert o m k v ∙ ap (λ e. cond (is_some e) (len m) (len m + 1)) h

  pub len_pushed : (m : FinMap R X) (k : K) (v : X) → get m k ≡ None → len (insert m k v) ≡ len m + 1
  len_pushed m k v h = map.len-insert o m k v ∙ ap (λ e. cond (is_some e) (len m) (len m + 1)) h

  pub len_removed : (m : FinMap R X) (k : K) (v : X) → get m k ≡ Some v → len (remove m k) + 1 ≡ len m
  len_removed m k v h = grind (
    arith,
    nat_tests,
    len_pushed (remove m k) k v (get_removed m k),
    get_removed m k,
    insert-remove m k v h,
  )

  pub get_elsewhere : (m : FinMap R X) (k : K) (v : X) (q : K) → q ≢ k → get (insert m k v) q ≡ get m q
  get_elsewhere m k v q apart = map.get-insert o m k v q ∙ ap (λ b. cond b (Some v) (get m q))
      (apart_test o same q k apart)

  pub removed_elsewhere : (m : FinMap R X) (k q : K) → q ≢ k → get (remove m k) q ≡ get m q
  removed_elsewhere m k q apart = map.get-remove o m k q ∙ ap (λ b. cond b None (get m q)) (apart_test o same q k apart)

  -- a sum of bounded numbers
  pub sum_le : (f : X → ℕ) (b : ℕ) (m : FinMap R X) → ((k : K) (v : X) → get m k ≡ Some v → f v ≤ b) →
      sum_by f (values m) ≤ len m * b
  sum_le f b = by_entries (λ m. ((k : K) (v : X) → get m k ≡ Some v → f v ≤ b) → sum_by f (values m) ≤ len m * b)
      (λ h. let none : sum_by f (values (empty {X = X} {R = R})) ≡ 0 =
      ap (λ es. sum_by f (values_of es)) (entries-empty R) in omega (arith, none))
      (λ m k v new more h.
      let rest = more (λ q w there. h q w (get_elsewhere m k v q (λ is. let gone : None ≡ Some w =
      sym new ∙ ap (get m) (sym is) ∙ there in cc) ∙ there)) in
      let one = h k v (get_here m k v) in
      let sums = sum-insert f m k v in
      let nothing : option_map_or f (get m k) 0 ≡ 0 = ap (λ e. option_map_or f e 0) new in
      let longer = len_pushed m k v new in
      let product : (len m + 1) * b ≡ len m * b + b = grind arith in
      rw longer (omega (arith, rest, one, sums, nothing, product)))

  -- a sum of numbers, each of which is bounded by a multiple of another
  pub sum_le_by : (f g : X → ℕ) (b : ℕ) (m : FinMap R X) → ((k : K) (v : X) → get m k ≡ Some v → f v ≤ g v * b) →
      sum_by f (values m) ≤ sum_by g (values m) * b
  sum_le_by f g b = by_entries (λ m. ((k : K) (v : X) → get m k ≡ Some v → f v ≤ g v * b) →
      sum_by f (values m) ≤ sum_by g (values m) * b)
      (λ h. let none : sum_by f (values (empty {X = X} {R = R})) ≡ 0 =
      ap (λ es. sum_by f (values_of es)) (entries-empty R) in omega (arith, none))
      (λ m k v new more h.
      let rest = more (λ q w there. h q w (get_elsewhere m k v q (λ is. let gone : None ≡ Some w =
      sym new ∙ ap (get m) (sym is) ∙ there in cc) ∙ there)) in
      let one = h k v (get_here m k v) in
      let sums = sum-insert f m k v in
      let others = sum-insert g m k v in
      let nothing : option_map_or f (get m k) 0 ≡ 0 = ap (λ e. option_map_or f e 0) new in
      let no_other : option_map_or g (get m k) 0 ≡ 0 = ap (λ e. option_map_or g e 0) new in
      let more_of : sum_by g (values (insert m k v)) ≡ sum_by g (values m) + g v = omega (arith, others, no_other) in
      let product : (sum_by g (values m) + g v) * b ≡ sum_by g (values m) * b + g v * b = grind arith in
      rw more_of (omega (arith, rest, one, sums, nothing, product)))
