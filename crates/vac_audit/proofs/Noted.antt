-- The notes of a walk, as lists.
use Rattle.std.proofs.Common.{◌≡◌, inl, inr, ℕ, ◌+◌, ◌<◌, ◌≤◌, ◌^◌, List, [], ◌∷◌, ◌++◌, map, length, get_or, set, refl}
use Rattle.std.proofs.Common.{sym, ap, ◌∙◌, subst, arith}
use Rattle.std.specs.Prelude.{slice_index}
use Rattle.std.specs.List.{All}
use Rattle.std.proofs.lemmas.Bool.{cases_lt}
use Rattle.std.proofs.lemmas.List.{length-map, get_or-map, get_or_past, map-append, map-set, set-get_or}
use Rattle.std.proofs.lemmas.List.Elements.{All-get_or, All-from_get_or, All-nil, All-cons}
use Rattle.tx_alloc.specs.Rows.{Rows}
use Rattle.vac_bookings.specs.Bookings.{code_of}
use Rattle.vac_bookings.specs.declared.key.Key.{Key}
use Rattle.vac_audit.specs.Noted.{AreRising, InOrder, keys_in, codes_in, blocks_in, booked_in, noted_of}
use Rattle.vac_audit.specs.Marks.{SameItems}
use Rattle.vac_audit.specs.declared.notes.NotedItem.{NotedItem}
use Rattle.vac_audit.specs.declared.notes.Notes.{Notes}

-- the item that stands for none
abbrev pub no_item : NotedItem
no_item = record { key = record { kind = 0; id = 0 }; block = 0; booked = 0 }

length_keys : (items : List NotedItem) → length (keys_in items) ≡ length items
length_keys items = length-map items (λ (item : NotedItem). item.key)

pub length_codes : (items : List NotedItem) → length (codes_in items) ≡ length items
length_codes items = length-map (keys_in items) code_of ∙ length_keys items

pub length_blocks : (items : List NotedItem) → length (blocks_in items) ≡ length items
length_blocks items = length-map items (λ (item : NotedItem). item.block)

pub length_booked : (items : List NotedItem) → length (booked_in items) ≡ length items
length_booked items = length-map items (λ (item : NotedItem). item.booked)

-- the item at an index
module _ (items : List NotedItem) (i : ℕ) (d : NotedItem) (inside : i < length items) where
  pub code_at : slice_index (codes_in items) i ≡ code_of (get_or items i d).key
  code_at = get_or-map code_of (keys_in items) i d.key 0 (omega (arith, inside, length_keys items)) ∙
      ap code_of (get_or-map (λ (item : NotedItem). item.key) items i d d.key inside)

  pub block_at : slice_index (blocks_in items) i ≡ (get_or items i d).block
  block_at = get_or-map (λ (item : NotedItem). item.block) items i d 0 inside

  pub units_at : slice_index (booked_in items) i ≡ (get_or items i d).booked
  units_at = get_or-map (λ (item : NotedItem). item.booked) items i d 0 inside

  pub short_at : InOrder items → (get_or items i d).key.id < 2 ^ 32
  short_at order = subst (λ (key : Key). key.id < 2 ^ 32) (get_or-map
      (λ (item : NotedItem). item.key) items i d d.key inside)
      (All-get_or (λ (key : Key). key.id < 2 ^ 32) (keys_in items) i d.key
      (omega (arith, inside, length_keys items)) order.ids)

  -- another item in its place leaves these values as they were
  pub kept_at : {A : Type 0} (f : NotedItem → A) (item : NotedItem) → f item ≡ f (get_or items i d) →
      map f (set items i item) ≡ map f items
  kept_at f item e = map-set f items i item ∙ (ap (λ a. set (map f items) i a)
      (e ∙ sym (get_or-map f items i d (f d) inside)) ∙ set-get_or (map f items) i (f d))

-- in notes without counted bookings
pub booked_none : (items : List NotedItem) (i : ℕ) → All (λ item. item.booked ≡ 0) items →
    slice_index (booked_in items) i ≡ 0
booked_none items i h = elim (cases_lt i (length items)) [
  | inl l ↦ units_at items i no_item l ∙ All-get_or (λ (item : NotedItem). item.booked ≡ 0) items i no_item l h
  | inr l ↦ get_or_past (booked_in items) i 0 (omega (arith, l, length_booked items))
]

-- two notes with the same items
module _ (notes notes' : Notes) (same : SameItems notes notes') where
  pub same_codes : codes_in notes'.items.items ≡ codes_in notes.items.items
  same_codes = ap (λ (keys : List _). map code_of keys) same.keys

  pub same_length : length notes'.items.items ≡ length notes.items.items
  same_length = omega (
    arith,
    length_blocks notes.items.items,
    length_blocks notes'.items.items,
    ap (λ (z : List ℕ). length z) same.blocks,
  )

  pub same_order : InOrder notes.items.items → InOrder notes'.items.items
  same_order h = record {
    rising = subst AreRising (sym same_codes) h.rising;
    ids = subst (λ keys. All (λ key. key.id < 2 ^ 32) keys) (sym same.keys) h.ids;
  }

  pub same_inside : (n : ℕ) → All (λ item. item.block + 8 ≤ n) notes.items.items →
      All (λ item. item.block + 8 ≤ n) notes'.items.items
  same_inside n h = All-from_get_or (λ (item : NotedItem). item.block + 8 ≤ n) notes'.items.items no_item (λ i l.
      let inside : i < length notes.items.items = omega (arith, l, same_length) in
      omega (
        arith,
        block_at notes'.items.items i no_item l,
        ap (λ (z : List ℕ). slice_index z i) same.blocks,
        block_at notes.items.items i no_item inside,
        h i no_item inside,
      ))

-- one list after the other
pub noted_append : (kind : ℕ) (rs ts : Rows) → noted_of kind (rs ++ ts) ≡ noted_of kind rs ++ noted_of kind ts
noted_append kind rs ts = map-append _ rs ts

pub codes_append : (xs ys : List NotedItem) → codes_in (xs ++ ys) ≡ codes_in xs ++ codes_in ys
codes_append xs ys = ap (λ (keys : List _). map code_of keys) (map-append (λ (item : NotedItem). item.key) xs ys) ∙
    map-append code_of (keys_in xs) (keys_in ys)

pub blocks_append : (xs ys : List NotedItem) → blocks_in (xs ++ ys) ≡ blocks_in xs ++ blocks_in ys
blocks_append xs ys = map-append (λ (item : NotedItem). item.block) xs ys

-- rows that were just noted have no booking counted
pub noted_none : (kind : ℕ) (rs : Rows) → All (λ item. item.booked ≡ 0) (noted_of kind rs)
noted_none kind [] = All-nil (λ (item : NotedItem). item.booked ≡ 0)
noted_none kind (r ∷ rs) = All-cons (λ (item : NotedItem). item.booked ≡ 0) _ (noted_of kind rs) refl
    (noted_none kind rs)
