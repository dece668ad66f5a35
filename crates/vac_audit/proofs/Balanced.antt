-- The state of a sound heap is balanced.
use Rattle.std.proofs.Common.{◌≡◌, ◌≢◌, ℕ, ◌+◌, ◌*◌, ◌^◌, ◌<◌, ◌≤◌, Bool, false, true, cond, List, [], ◌∷◌, map, Option}
use Rattle.std.proofs.Common.{Some, None, refl, sym, ap, ◌∙◌, subst, arith}
use Rattle.std.specs.Prelude.{IsSome, is_some, sum_by}
use Rattle.std.specs.declared.cmp.Ordering.{Ordering}
use Rattle.std.specs.declared.cmp.Ordering.TheVariants.{Less, Equal, Greater}
use Rattle.std.specs.Ordering.{nat_cmp, is_eq}
use Rattle.std.specs.FinMap.{from_entries, entries, get, get-entries, find}
use Rattle.vac_model.specs.declared.items.Kind.{Kind}
use Rattle.vac_model.specs.declared.items.Item.{Item}
use Rattle.vac_model.specs.declared.items.Booking.{Booking}
use Rattle.vac_model.specs.State.{Bookings, Place, kind_number, place_cmp, table_of, item_of, bookings_of, units_of}
use Rattle.vac_model.specs.State.{units_held}
use Rattle.vac_model.specs.Balanced.{IsItem, IsBooking, IsBalanced}
use Rattle.vac_model.specs.Amounts.{is_id}
use Rattle.vac_model.proofs.Ids.{id_between}
use Rattle.vac_model.proofs.Balance.{some_same}
use Rattle.vac_model.proofs.Places.{place_cmp-IsAntisymmetric}
use Rattle.tx_alloc.specs.Rows.{Rows, IsFrom, block_at}
use Rattle.vac_bookings.specs.Bookings.{Linked, IsList}
use Rattle.vac_model.specs.Coded.{kind_of_number, kind_back}
use Rattle.vac_records.specs.Bookings.{place_in, booking_in}
use Rattle.vac_records.specs.Items.{item_in}
use Rattle.vac_records.specs.Heap.{Parts, over}
use Rattle.vac_records.specs.Represents.{items_in, bookings_in}
use Rattle.vac_records.proofs.Items.{item_found}
use Rattle.vac_records.proofs.Shifts.{kind_small}
use Rattle.vac_records.proofs.Single.{counted}
use Rattle.vac_audit.specs.Walk.{units_in}
use Rattle.vac_audit.proofs.Sound.{Each, IsItemAt, IsBookingRow, IsSound}
use Rattle.vac_audit.proofs.States.{customers_of, state_of}
use Rattle.vac_audit.proofs.Over.{each_as}
use Rattle.vac_audit.proofs.Showing.{number_of, kind_low, customer_entries, booking_entries, state_law}
use Rattle.vac_audit.proofs.Holding.{same_key, item_row, units_held_over}
use Rattle.vac_audit.proofs.Represented.{lists, represented}

-- two facts of each row
pub each_both : (P Q : ℕ × ℕ → Type 0) (rs : Rows) → Each P rs → Each Q rs → Each (λ r. P r × Q r) rs
each_both P Q [] h g = tt
each_both P Q (r ∷ rs) h g = ((h.0, g.0), each_both P Q rs h.1 g.1)

pub each_from : (lo : ℕ) (rs : Rows) → IsFrom lo rs → Each (λ r. lo ≤ r.0) rs
each_from lo [] h = tt
each_from lo (r ∷ rs) h = (
  h.0,
  each_as (λ q. r.0 + 1 ≤ q.0) (λ q. lo ≤ q.0) rs (λ q o g. omega (arith, g, h.0))
      (each_from (r.0 + 1) rs h.1),
)

-- a booking's kind and id are in their ranges
pub record InRange (m : ℕ → ℕ) (a : ℕ) : Type 0 where
  pub kind : m a < 3
  pub id : m (a + 1) < 2 ^ 32

pub each_linked : (m : ℕ → ℕ) (n p lo : ℕ) (rs : Rows) → Linked m n p lo rs → Each (λ r. InRange m r.1) rs
each_linked m n p lo [] h = tt
each_linked m n p lo (r ∷ rs) h = (
  record { kind = kind_low m n p lo r h.0; id = h.0.id },
  each_linked m n (m (r.1 + 3)) (r.0 + 1) rs h.1,
)

is_equal : (o : Ordering) → is_eq o ≡ true → o ≡ Equal
is_equal Less e = absurd (let q : false ≡ true = e in cc)
is_equal Equal e = refl
is_equal Greater e = absurd (let q : false ≡ true = e in cc)

-- a customer that is found in the map is in a row
pub record CustomerRow (m : ℕ → ℕ) (lists : ℕ → Rows) (P : ℕ × ℕ → Type 0) (id : ℕ) (bookings : Bookings) : Type 0 where
  pub row : ℕ × ℕ
  pub id_is : row.0 ≡ id
  pub is : from_entries (bookings_in m (lists row.1)) ≡ bookings
  pub fact : P row

pub customer_row : (m : ℕ → ℕ) (lists : ℕ → Rows) (P : ℕ × ℕ → Type 0) (id : ℕ) (bookings : Bookings) (rs : Rows) →
    find nat_cmp id (customers_of m lists rs) ≡ Some bookings → Each P rs → CustomerRow m lists P id bookings
customer_row m lists P id bookings [] e h = absurd (let q : ◌≡◌ {A = Option Bookings} None (Some bookings) = e in cc)
customer_row m lists P id bookings (r ∷ rs) e h = go (is_eq (nat_cmp id r.0)) refl e
    (λ q. customer_row m lists P id bookings rs q h.1)
  where
    go : (b : Bool) → is_eq (nat_cmp id r.0) ≡ b → cond b (Some (from_entries (bookings_in m (lists r.1))))
        (find nat_cmp id (customers_of m lists rs)) ≡ Some bookings
        → (find nat_cmp id (customers_of m lists rs) ≡ Some bookings → CustomerRow m lists P id bookings) →
        CustomerRow m lists P id bookings
    go true t e rest = record { row = r; id_is = same_key id r.0 t; is = some_same _ _ e; fact = h.0 }
    go false t e rest = rest e

-- a booking that is found in the map is in a row
pub record BookingRow (m : ℕ → ℕ) (P : ℕ × ℕ → Type 0) (place : Place) (b : Booking) : Type 0 where
  pub row : ℕ × ℕ
  pub place_is : place_in m row.1 ≡ place
  pub is : booking_in m row.1 ≡ b
  pub fact : P row

pub booking_row : (m : ℕ → ℕ) (P : ℕ × ℕ → Type 0) (place : Place) (x : Booking) (rs : Rows) →
    find place_cmp place (bookings_in m rs) ≡ Some x → Each P rs → BookingRow m P place x
booking_row m P place x [] e h = absurd (let q : ◌≡◌ {A = Option Booking} None (Some x) = e in cc)
booking_row m P place x (r ∷ rs) e h = go (is_eq (place_cmp place (place_in m r.1))) refl e
    (λ q. booking_row m P place x rs q h.1)
  where
    go : (b : Bool) → is_eq (place_cmp place (place_in m r.1)) ≡ b →
        cond b (Some (booking_in m r.1)) (find place_cmp place (bookings_in m rs)) ≡ Some x
        → (find place_cmp place (bookings_in m rs) ≡ Some x → BookingRow m P place x) → BookingRow m P place x
    go true t e rest = record {
      row = r;
      place_is = sym (place_cmp-IsAntisymmetric place (place_in m r.1)
          (is_equal _ t));
      is = some_same _ _ e;
      fact = h.0;
    }
    go false t e rest = rest e

-- the facts of a row of items
pub record ItemRow (m : ℕ → ℕ) (p : Parts) (k : ℕ) (r : ℕ × ℕ) : Type 0 where
  pub low : 1 ≤ r.0
  pub high : r.0 < 2 ^ 32
  pub item : IsItemAt m r.1
  pub used : m (r.1 + 4) ≡ over (units_in m (k * 2 ^ 32 + r.0)) (p.tables 3) p.lists

pub record CustomerKnown (m : ℕ → ℕ) (n : ℕ) (p : Parts) (r : ℕ × ℕ) : Type 0 where
  pub low : 1 ≤ r.0
  pub high : r.0 < 2 ^ 32
  pub list : IsList m n (m (r.1 + 4)) (p.lists r.1)
  pub rows : Each (IsBookingRow m p.tables) (p.lists r.1)

module _ (m : ℕ → ℕ) (blocks : ℕ) (p : Parts) (h : IsSound m (16 + 8 * blocks) p) where
  item_rows : (k : ℕ) → k < 3 → Each (ItemRow m p k) (p.tables k)
  item_rows k l =
      let low = each_from 1 (p.tables k) (h.tables k (omega arith)).rises in
      let keys = each_both _ _ (p.tables k) low (h.keys k (omega arith)) in
      let facts = each_both _ _ (p.tables k) (h.items k l) (h.used k l) in
      each_as _ (ItemRow m p k) (p.tables k) (λ r o g. record { low = g.0.0; high = g.0.1; item = g.1.0; used = g.1.1 })
      (each_both _ _ (p.tables k) keys facts)

  customer_rows : Each (CustomerKnown m (16 + 8 * blocks) p) (p.tables 3)
  customer_rows =
      let low = each_from 1 (p.tables 3) (h.tables 3 (omega arith)).rises in
      let keys = each_both _ _ (p.tables 3) low (h.keys 3 (omega arith)) in
      each_as _ (CustomerKnown m (16 + 8 * blocks) p) (p.tables 3)
      (λ r o g. record { low = g.0.0; high = g.0.1; list = g.1.0; rows = g.1.1 })
      (each_both _ _ (p.tables 3) keys h.lists)

  customers_are : entries (state_of m blocks p).customers ≡ customers_of m p.lists (p.tables 3)
  customers_are = customer_entries m p.lists 1 (p.tables 3) (h.tables 3 (omega arith)).rises

  held_at : (k id : ℕ) → k < 3 → id < 2 ^ 32 → units_held (state_of m blocks p) (kind_of_number k, id) ≡ over
      (units_in m (k * 2 ^ 32 + id)) (p.tables 3) p.lists
  held_at k id l high =
      ap (λ (z : List (ℕ × Bookings)). sum_by (λ bs. units_of bs (kind_of_number k, id)) (map (λ e. e.1) z))
      customers_are
      ∙ units_held_over m (16 + 8 * blocks) p.lists k id (p.tables 3) l high (lists m blocks p h)

  held_by : (kind : Kind) (id : ℕ) → id < 2 ^ 32 → units_held (state_of m blocks p) (kind, id) ≡ over
      (units_in m (kind_number kind * 2 ^ 32 + id)) (p.tables 3) p.lists
  held_by kind id high =
      ap (λ (k : Kind). units_held (state_of m blocks p) (k, id)) (sym (kind_back kind)) ∙ held_at (kind_number kind) id
      (kind_small kind) high

  item_balanced : (kind : Kind) (id : ℕ) (item : Item) → item_of (state_of m blocks p) kind id ≡ Some item →
      IsItem (state_of m blocks p) kind id item
  item_balanced kind id item e =
      let shows = (state_law m blocks p h).0 in
      let found : find nat_cmp id (items_in m (p.tables (kind_number kind))) ≡ Some item =
      sym (ap (find nat_cmp id) (shows.items kind)) ∙ (sym (get-entries (table_of (state_of m blocks p) kind) id) ∙
      e) in
      let w = item_row m (ItemRow m p (kind_number kind)) id item (p.tables (kind_number kind)) found
      (item_rows (kind_number kind) (kind_small kind)) in
      of_row kind id item w.0 w.1.0 w.1.1 w.1.2
    where
      of_row : (kind : Kind) (id : ℕ) (item : Item) (r : ℕ × ℕ) → r.0 ≡ id → item_in m r.1 ≡ item →
          ItemRow m p (kind_number kind) r → IsItem (state_of m blocks p) kind id item
      of_row kind id item r e f g =
          subst (λ (i : ℕ). IsItem (state_of m blocks p) kind i item) e
          (subst (λ (x : Item). IsItem (state_of m blocks p) kind r.0 x) f (record {
            id_range = id_between r.0 g.low g.high;
            some_units = g.item.some;
            few_units = g.item.few;
            price_range = g.item.price;
            counts = g.item.sum;
            held = g.used ∙ sym (held_by kind r.0 g.high);
          }))

  found_customer : (id : ℕ) (bookings : Bookings) → bookings_of (state_of m blocks p) id ≡ Some bookings →
      CustomerRow m p.lists (CustomerKnown m (16 + 8 * blocks) p) id bookings
  found_customer id bookings e =
      let found : find nat_cmp id (customers_of m p.lists (p.tables 3)) ≡ Some bookings =
      sym (ap (find nat_cmp id) customers_are) ∙ (sym (get-entries (state_of m blocks p).customers id) ∙ e) in
      customer_row m p.lists (CustomerKnown m (16 + 8 * blocks) p) id bookings (p.tables 3) found customer_rows

  -- the item of a booking's row exists
  item_there : (a : ℕ) → InRange m a → block_at (p.tables (m a)) (m (a + 1)) ≢ 0 →
      IsSome (item_of (state_of m blocks p) (kind_of_number (m a)) (m (a + 1)))
  item_there a r some =
      let at : block_at (p.tables (kind_number (kind_of_number (m a)))) (m (a + 1)) ≡ block_at (p.tables (m a))
      (m (a + 1)) = ap (λ (k : ℕ). block_at (p.tables k) (m (a + 1))) (number_of (m a) r.kind) in
      let found = item_found m (16 + 8 * blocks) [] (state_of m blocks p) (represented m blocks p h)
      (kind_of_number (m a)) (m (a + 1)) (block_at (p.tables (m a)) (m (a + 1)))
      (record { at = at; some = some }) in
      subst IsSome (sym found) (ap is_some {x = Some (item_in m (block_at (p.tables (m a)) (m (a + 1))))} refl)

  booking_balanced : (customer : ℕ) (bookings : Bookings) (kind : Kind) (id : ℕ) (b : Booking) →
      bookings_of (state_of m blocks p) customer ≡ Some bookings → get bookings (kind, id) ≡ Some b
      → IsBooking (state_of m blocks p) kind id b
  booking_balanced customer bookings kind id b e f =
      let c = found_customer customer bookings e in
      let list = c.fact.list.linked in
      let found : find place_cmp (kind, id) (bookings_in m (p.lists c.row.1)) ≡ Some b =
      sym (ap (find place_cmp (kind, id)) (booking_entries m (16 + 8 * blocks) (m (c.row.1 + 4)) 0
      (p.lists c.row.1) list))
      ∙ (sym (get-entries (from_entries (bookings_in m (p.lists c.row.1))) (kind, id)) ∙
      (ap (λ (z : Bookings). get z (kind, id)) c.is ∙ f)) in
      let facts = each_both _ _ (p.lists c.row.1) (each_linked m (16 + 8 * blocks) (m (c.row.1 + 4)) 0
      (p.lists c.row.1) list) c.fact.rows in
      of_row kind id b (booking_row m (λ r. InRange m r.1 × IsBookingRow m p.tables r) (kind, id) b
      (p.lists c.row.1) found facts)
    where
      of_row : (kind : Kind) (id : ℕ) (b : Booking) → BookingRow m (λ r. InRange m r.1 × IsBookingRow m p.tables r)
          (kind, id) b → IsBooking (state_of m blocks p) kind id b
      of_row kind id b w =
          subst (λ (q : Place). IsBooking (state_of m blocks p) q.0 q.1 b) w.place_is
          (subst (λ (x : Booking). IsBooking (state_of m blocks p) (kind_of_number (m w.row.1)) (m (w.row.1 + 1)) x)
          w.is (record {
            item = item_there w.row.1 w.fact.0 w.fact.1.item;
            some_units = w.fact.1.some;
            few_units = w.fact.1.few;
            sum_range = w.fact.1.sum;
          }))

  pub balanced : IsBalanced (state_of m blocks p)
  balanced = record {
    room = omega (arith, counted m (16 + 8 * blocks) [] (state_of m blocks p) (represented m blocks p h));
    items = item_balanced;
    customers = λ id bookings e. (
        let c = found_customer id bookings e in
        subst (λ n. is_id n ≡ true) c.id_is (id_between c.row.0 c.fact.low c.fact.high));
    bookings = booking_balanced;
  }
