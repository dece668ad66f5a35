-- The units of an item that a customer's bookings have, in the map and in the rows.
use Rattle.std.proofs.Common.{◌≡◌, ℕ, ◌+◌, ◌*◌, ◌^◌, ◌<◌, Bool, true, false, cond, [], ◌∷◌, map, refl, ap, ◌∙◌, arith}
use Rattle.std.proofs.Common.{nat_eq}
use Rattle.std.specs.Prelude.{Option, Some, None}
use Rattle.std.specs.Option.{option_map_or}
use Rattle.std.proofs.lemmas.Bool.Decides.{nat_tests}
use Rattle.std.specs.Ordering.{nat_cmp, ordering_then, is_eq}
use Rattle.std.specs.FinMap.{from_entries, get-entries, find}
use Rattle.vac_model.specs.declared.items.Booking.{Booking}
use Rattle.vac_model.specs.declared.items.Item.{Item}
use Rattle.vac_model.specs.State.{Bookings, place_cmp, units_of}
use Rattle.vac_records.specs.Heap.{over}
use Rattle.vac_audit.proofs.Sound.{Each}
use Rattle.vac_audit.proofs.States.{customers_of}
use Rattle.std.specs.List.{sum_by}
use Rattle.std.proofs.lemmas.List.Sums.{sum_by-cons}
use Rattle.tx_alloc.specs.Rows.{Rows}
use Rattle.vac_bookings.specs.Bookings.{Linked, IsList}
use Rattle.vac_model.specs.Coded.{kind_of_number}
use Rattle.vac_records.specs.Bookings.{booking_in}
use Rattle.vac_records.specs.Items.{item_in}
use Rattle.vac_records.specs.Represents.{items_in, bookings_in}
use Rattle.vac_audit.specs.Walk.{units_in}
use Rattle.vac_audit.proofs.Showing.{number_of, booking_entries, kind_low, code_is}

-- a comparison of two places is that of their codes
same_place : (k i k' i' : ℕ) → k < 3 → k' < 3 → i < 2 ^ 32 → i' < 2 ^ 32 →
    is_eq (place_cmp (kind_of_number k, i) (kind_of_number k', i')) ≡ nat_eq (k' * 2 ^ 32 + i') (k * 2 ^ 32 + i)
same_place k i k' i' a b c d = rw (number_of k a, number_of k' b) (codes k i k' i' c d)
  where
    codes : (k i k' i' : ℕ) → i < 2 ^ 32 → i' < 2 ^ 32 → is_eq (ordering_then (nat_cmp k k') (nat_cmp i i')) ≡ nat_eq
        (k' * 2 ^ 32 + i') (k * 2 ^ 32 + i)
    codes k i k' i' c d = grind (arith, nat_tests)

units_above : (m : ℕ → ℕ) (n p lo code : ℕ) (rs : Rows) → Linked m n p lo rs → code < lo → units_in m code rs ≡ 0
units_above m n p lo code [] h l = refl
units_above m n p lo code (r ∷ rs) h l =
    let t : nat_eq r.0 code ≡ false = let low = h.0.low in grind (arith, nat_tests) in
    omega (
      arith,
      ap (λ (b : Bool). cond {A = ℕ} b (m (r.1 + 4)) 0) t,
      units_above m n (m (r.1 + 3)) (r.0 + 1) code rs h.1 (omega (arith, h.0.low)),
    )

pub units_find : (m : ℕ → ℕ) (n p lo k i : ℕ) (rs : Rows) → k < 3 → i < 2 ^ 32 → Linked m n p lo rs →
    option_map_or (λ b. b.units) (find place_cmp (kind_of_number k, i) (bookings_in m rs)) 0 ≡ units_in m
    (k * 2 ^ 32 + i) rs
units_find m n p lo k i [] a c h = refl
units_find m n p lo k i (r ∷ rs) a c h =
    let test : is_eq (place_cmp (kind_of_number k, i) (kind_of_number (m r.1), m (r.1 + 1))) ≡ nat_eq r.0
    (k * 2 ^ 32 + i) =
    same_place k i (m r.1) (m (r.1 + 1)) a (kind_low m n p lo r h.0) c h.0.id ∙
    ap (λ (z : ℕ). nat_eq z (k * 2 ^ 32 + i)) (code_is m n p lo r h.0) in
    ap (λ (b : Bool). option_map_or (λ (x : Booking). x.units)
    (cond b (Some (booking_in m r.1)) (find place_cmp (kind_of_number k, i) (bookings_in m rs))) 0) test
    ∙ either (nat_eq r.0 (k * 2 ^ 32 + i)) refl (units_find m n (m (r.1 + 3)) (r.0 + 1) k i rs a c h.1)
  where
    either : (b : Bool) → nat_eq r.0 (k * 2 ^ 32 + i) ≡ b → option_map_or (λ b. b.units)
        (find place_cmp (kind_of_number k, i) (bookings_in m rs)) 0 ≡ units_in m (k * 2 ^ 32 + i) rs →
        option_map_or (λ (x : Booking). x.units) (cond b (Some (booking_in m r.1))
        (find place_cmp (kind_of_number k, i) (bookings_in m rs))) 0 ≡ cond b (m (r.1 + 4)) 0 + units_in m
        (k * 2 ^ 32 + i) rs
    either true e w = let q : r.0 ≡ k * 2 ^ 32 + i = grind (arith, nat_tests) in
        omega (arith, units_above m n (m (r.1 + 3)) (r.0 + 1) (k * 2 ^ 32 + i) rs h.1 (omega arith))
    either false e w = omega (arith, w)

-- the units that a customer has of an item
pub units_held_by : (m : ℕ → ℕ) (n p k i : ℕ) (rs : Rows) → k < 3 → i < 2 ^ 32 → Linked m n p 0 rs →
    units_of (from_entries (bookings_in m rs)) (kind_of_number k, i) ≡ units_in m (k * 2 ^ 32 + i) rs
units_held_by m n p k i rs a c h =
    ap (λ (z : Option Booking). option_map_or (λ (b : Booking). b.units) z 0)
    (get-entries (from_entries (bookings_in m rs)) (kind_of_number k, i) ∙ ap (find place_cmp (kind_of_number k, i))
    (booking_entries m n p 0 rs h))
    ∙ units_find m n p 0 k i rs a c h

-- the units that all customers have of an item
pub units_held_over : (m : ℕ → ℕ) (n : ℕ) (lists : ℕ → Rows) (k i : ℕ) (rs : Rows) → k < 3 → i < 2 ^ 32 →
    Each (λ r. IsList m n (m (r.1 + 4)) (lists r.1)) rs
    → sum_by (λ bs. units_of bs (kind_of_number k, i)) (map (λ e. e.1) (customers_of m lists rs)) ≡ over
    (units_in m (k * 2 ^ 32 + i)) rs lists
units_held_over m n lists k i [] a c h = refl
units_held_over m n lists k i (r ∷ rs) a c h =
    omega (
      arith,
      sum_by-cons (λ (bs : Bookings). units_of bs (kind_of_number k, i)) (from_entries (bookings_in m (lists r.1)))
          (map (λ e. e.1) (customers_of m lists rs)),
      units_held_by m n (m (r.1 + 4)) k i (lists r.1) a c h.0.linked,
      units_held_over m n lists k i rs a c h.1,
    )

pub same_key : (a b : ℕ) → is_eq (nat_cmp a b) ≡ true → b ≡ a
same_key a b e = grind (arith, nat_tests)

-- an item that is found in the map of a table is in a row
pub item_row : (m : ℕ → ℕ) (P : ℕ × ℕ → Type 0) (id : ℕ) (item : Item) (rs : Rows) →
    find nat_cmp id (items_in m rs) ≡ Some item → Each P rs → (r : ℕ × ℕ) × ((r.0 ≡ id) × (item_in m r.1 ≡ item) × P r)
item_row m P id item [] e h = absurd (let q : ◌≡◌ {A = Option Item} None (Some item) = e in cc)
item_row m P id item (r ∷ rs) e h = go (is_eq (nat_cmp id r.0)) refl e (λ q. item_row m P id item rs q h.1)
  where
    go : (b : Bool) → is_eq (nat_cmp id r.0) ≡ b → cond b (Some (item_in m r.1))
        (find nat_cmp id (items_in m rs)) ≡ Some item
        → (find nat_cmp id (items_in m rs) ≡ Some item → (r : ℕ × ℕ) × ((r.0 ≡ id) × (item_in m r.1 ≡ item) × P r)) →
        (r : ℕ × ℕ) × ((r.0 ≡ id) × (item_in m r.1 ≡ item) × P r)
    go true t e rest = (
      r,
      (
        same_key id r.0 t,
        (let q : ◌≡◌ {A = Option Item} (Some (item_in m r.1)) (Some item) = e in
            cc),
        h.0,
      ),
    )
    go false t e rest = rest e
