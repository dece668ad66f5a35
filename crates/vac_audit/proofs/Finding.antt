-- Keys in their order, and the search for one.
use Rattle.std.proofs.Common.{◌≡◌, ◌≢◌, inl, inr, ℕ, ◌<◌, ◌≤◌, ◌^◌, List, length, get_or, sym, ap, ◌∙◌, arith}
use Rattle.std.specs.Prelude.{Result, Ok, Err, Option, MatchOption, slice_index}
use Rattle.std.specs.Result.{result_ok}
use Rattle.std.specs.List.Sorted.{IsBinarySearchResult, IsNonDecreasingBy, IsSearchInRange}
use Rattle.std.specs.Ordering.{nat_cmp, ordering_index}
use Rattle.std.specs.declared.cmp.Ordering.{Ordering}
use Rattle.std.specs.declared.cmp.Ordering.TheVariants.{Less, Equal, Greater}
use Rattle.std.proofs.lemmas.Bool.{cases_lt}
use Rattle.std.proofs.lemmas.Bool.Decides.{nat_tests}
use Rattle.std.proofs.lemmas.Cmp.{ranked}
use Rattle.tx_memory.specs.Seen.{same_or}
use Rattle.vac_bookings.specs.Bookings.{IsKey, code_of, key_code}
use Rattle.vac_bookings.specs.Search.{key_cmp}
use Rattle.vac_bookings.specs.declared.key.Key.{Key}
use Rattle.vac_audit.specs.Noted.{InOrder, codes_in}
use Rattle.vac_audit.specs.declared.notes.NotedItem.{NotedItem}
use Rattle.vac_audit.proofs.Noted.{no_item, length_codes, code_at, short_at}

-- the order of two keys
abbrev pub compared : Key → Key → Ordering
compared a b = key_cmp a.kind a.id b.kind b.id

-- keys of short ids are ordered like their codes
by_codes : (k i k' i' : ℕ) → i < 2 ^ 32 → i' < 2 ^ 32 → key_cmp k i k' i' ≡ nat_cmp (key_code k i) (key_code k' i')
by_codes k i k' i' a b = grind (arith, nat_tests)

higher : (a b x : ℕ) → a ≤ b → ordering_index (nat_cmp a x) ≤ ordering_index (nat_cmp b x)
higher a b x le = grind (arith, nat_tests)

module _ (items : List NotedItem) (key : Key) (order : InOrder items) (is_key : IsKey key) where
  codes_rise : (i j : ℕ) (d : NotedItem) → i ≤ j → j < length items →
      code_of (get_or items i d).key ≤ code_of (get_or items j d).key
  codes_rise i j d le l = elim (same_or i j) [
    | inl e ↦ omega (arith, ap (λ (z : ℕ). code_of (get_or items z d).key) e)
    | inr ne ↦ (
        let less : i < j = omega arith in
        omega (
          arith,
          order.rising i j less (omega (arith, l, length_codes items)),
          code_at items i d (omega arith),
          code_at items j d l,
        ))
  ]

  -- an item's key and this key are ordered like their codes
  by_code : (i : ℕ) (d : NotedItem) → i < length items → compared (get_or items i d).key key ≡ nat_cmp
      (code_of (get_or items i d).key) (code_of key)
  by_code i d l = by_codes (get_or items i d).key.kind (get_or items i d).key.id key.kind key.id
      (short_at items i d l order) is_key.1

  never_falls : IsNonDecreasingBy (λ item. ordering_index (compared item.key key)) items
  never_falls i j d le l =
      omega (
        arith,
        higher (code_of (get_or items i d).key) (code_of (get_or items j d).key) (code_of key) (codes_rise i j d le l),
        ap ordering_index (by_code i d (omega arith)),
        ap ordering_index (by_code j d l),
      )

  abbrev pub IsFound : Option ℕ → Type 0
  IsFound found = MatchOption found
      ((i : ℕ) → i < length items → slice_index (codes_in items) i ≢ code_of key)
      (λ i. (i < length items) × (slice_index (codes_in items) i ≡ code_of key))

  pub found_at : (r : Result ℕ ℕ) → IsSearchInRange r (length items) →
      IsBinarySearchResult (λ item. compared item.key key) items r → IsFound (result_ok r)
  found_at (Ok i) bound h = (
    bound,
    code_at items i no_item bound ∙ ranked (code_of (get_or items i no_item).key)
        (code_of key) Equal (sym (h no_item) ∙ by_code i no_item bound),
  )
  found_at (Err i) bound h =
      let parted = h never_falls in
      λ k l e. elim (cases_lt k i) [
        | inl below ↦ absurd (omega (
          arith,
          ranked (code_of (get_or items k no_item).key) (code_of key) Less
              (sym (parted.0 k no_item (omega arith) below) ∙ by_code k no_item l),
          code_at items k no_item l,
          e,
        ))
        | inr above ↦ absurd (omega (
          arith,
          ranked (code_of (get_or items k no_item).key) (code_of key) Greater
              (sym (parted.1 k no_item above l) ∙ by_code k no_item l),
          code_at items k no_item l,
          e,
        ))
      ]
