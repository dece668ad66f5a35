-- Sums over two finite maps of which one is below the other at each key.
use Rattle.std.proofs.Common.{◌≡◌, ℕ, ◌+◌, ◌≤◌, true, false, refl, ap, sym, ◌∙◌, arith, inl, inr}
use Rattle.std.specs.Prelude.{Option, Some, None, sum_by, is_some}
use Rattle.std.specs.Option.{option_map_or}
use Rattle.std.specs.declared.cmp.Ordering.{Ordering}
use Rattle.std.specs.Cmp.{IsTotalOrder}
use Rattle.std.specs.Map.{values_of}
use Rattle.std.specs.FinMap as map
use Rattle.std.specs.FinMap.{FinMap, IsAntisymmetric, get, insert, remove, len, values, empty}
use Rattle.vac_model.proofs.Views.{entries-empty}
use Rattle.vac_model.proofs.Sums.{by_entries, either_key, get_here, get_elsewhere, removed_elsewhere}
use Rattle.vac_model.proofs.Sums.{sum-insert, sum-remove, remove_missing, len_pushed, len_removed}

-- the value that an option has
pub there : {X : Type 0} (o : Option X) → is_some o ≡ true → (x : X) × (o ≡ Some x)
there None e = absurd (let never : false ≡ true = e in cc)
there (Some x) e = (x, refl)

module _ {K : Type 0} {R : K → K → Ordering} (o : IsTotalOrder R) (same : IsAntisymmetric R) where
  sum_without : {X : Type 0} (f : X → ℕ) (m : FinMap R X) (k : K) →
      sum_by f (values (remove m k)) + option_map_or f (get m k) 0 ≡ sum_by f (values m)
  sum_without {X} f m k = go (get m k) refl
    where
      go : (x : Option X) → get m k ≡ x →
          sum_by f (values (remove m k)) + option_map_or f x 0 ≡ sum_by f (values m)
      go None e =
          let left : sum_by f (values (remove m k)) ≡ sum_by f (values m) =
          ap (λ n. sum_by f (values n)) (remove_missing o same m k e) in
          omega (arith, left)
      go (Some x) e = sum-remove o same f m k x e

  -- a sum of numbers, each at most the number of the other map at its key
  pub sum_below : {X Y : Type 0} (f : X → ℕ) (g : Y → ℕ) (n : FinMap R Y) (m : FinMap R X) →
      ((k : K) → option_map_or g (get n k) 0 ≤ option_map_or f (get m k) 0) →
      sum_by g (values n) ≤ sum_by f (values m)
  sum_below {X} {Y} f g = by_entries o same
      (λ n. (m : FinMap R X) → ((k : K) → option_map_or g (get n k) 0 ≤ option_map_or f (get m k) 0) →
      sum_by g (values n) ≤ sum_by f (values m))
      (λ m h.
      let none : sum_by g (values (empty {X = Y} {R = R})) ≡ 0 =
      ap (λ es. sum_by g (values_of es)) (entries-empty R) in
      omega (arith, none))
      (λ n k v new more m h.
      let rest = more (remove m k) (λ q. elim (either_key o same q k) [
        | inl is ↦
            let nothing : option_map_or g (get n q) 0 ≡ 0 =
            ap (λ x. option_map_or g x 0) (ap (get n) is ∙ new) in
            omega (arith, nothing)
        | inr apart ↦
            let left : option_map_or g (get (insert n k v) q) 0 ≡ option_map_or g (get n q) 0 =
            ap (λ x. option_map_or g x 0) (get_elsewhere o same n k v q apart) in
            let right : option_map_or f (get (remove m k) q) 0 ≡ option_map_or f (get m q) 0 =
            ap (λ x. option_map_or f x 0) (removed_elsewhere o same m k q apart) in
            omega (arith, left, right, h q)
      ]) in
      let sums = sum-insert o same g n k v in
      let nothing : option_map_or g (get n k) 0 ≡ 0 = ap (λ x. option_map_or g x 0) new in
      let here : option_map_or g (get (insert n k v) k) 0 ≡ g v =
      ap (λ x. option_map_or g x 0) (get_here o same n k v) in
      omega (arith, rest, sums, nothing, here, h k, sum_without f m k))

  -- a map with some of the keys of another has at most as many entries
  pub len_below : {X Y : Type 0} (n : FinMap R Y) (m : FinMap R X) →
      ((k : K) → is_some (get n k) ≡ true → is_some (get m k) ≡ true) → len n ≤ len m
  len_below {X} {Y} = by_entries o same
      (λ n. (m : FinMap R X) → ((k : K) → is_some (get n k) ≡ true → is_some (get m k) ≡ true) → len n ≤ len m)
      (λ m h. omega (arith, map.len-empty R Y))
      (λ n k v new more m h.
      let own : is_some (get (insert n k v) k) ≡ true = ap is_some (get_here o same n k v) in
      let w = there (get m k) (h k own) in
      let rest = more (remove m k) (λ q e. elim (either_key o same q k) [
        | inl is ↦
            let missing : is_some (get n q) ≡ false = ap is_some (ap (get n) is ∙ new) in
            absurd (let never : false ≡ true = sym missing ∙ e in cc)
        | inr apart ↦ ap is_some (removed_elsewhere o same m k q apart)
            ∙ h q (ap is_some (get_elsewhere o same n k v q apart) ∙ e)
      ]) in
      omega (arith, rest, len_pushed o same n k v new, len_removed o same m k w.0 w.1))
