-- The state that the parts of a sound heap are.
use Rattle.std.proofs.Common.{◌≡◌, inl, inr, ℕ, ◌+◌, ◌*◌, ◌^◌, ◌<◌, List, [], ◌∷◌, map, length, zero, suc, refl, sym}
use Rattle.std.proofs.Common.{ap, ◌∙◌, arith, Less, Equal}
use Rattle.std.proofs.lemmas.Bool.Decides.{nat_tests}
use Rattle.std.proofs.lemmas.Bool.{cases_lt}
use Rattle.std.specs.List.{AllByRecursion, sum_by}
use Rattle.std.specs.List.Sorted.{IsStrictlySortedBy}
use Rattle.std.specs.Map.{keys_of}
use Rattle.std.specs.Ordering.{nat_cmp, ordering_then}
use Rattle.std.specs.declared.cmp.Ordering.{Ordering}
use Rattle.std.specs.FinMap.{from_entries, entries, len, values, len-entries}
use Rattle.std.proofs.lemmas.List.Sums.{sum_by-cons}
use Rattle.std.proofs.lemmas.Cmp.{nat_cmp_total}
use Rattle.vac_model.specs.declared.items.Kind.TheVariants.{Car, Flight, Room}
use Rattle.vac_model.specs.declared.items.Item.{Item}
use Rattle.vac_model.specs.declared.items.Booking.{Booking}
use Rattle.vac_model.specs.State.{Bookings, Place, place_cmp, kind_number, table_of, report, units_booked, bill_of}
use Rattle.vac_model.proofs.Views.{entries_of_sorted}
use Rattle.vac_model.proofs.Places.{place_cmp_total}
use Rattle.tx_alloc.specs.Rows.{Rows}
use Rattle.vac_bookings.specs.Bookings.{Linked, IsList, IsBookingOfRow}
use Rattle.vac_records.specs.Heap.{over}
use Rattle.tx_alloc.specs.Rows.{IsFrom}
use Rattle.vac_model.specs.Coded.{kind_of_number}
use Rattle.vac_records.specs.Bookings.{booking_in}
use Rattle.vac_records.specs.Items.{item_in}
use Rattle.vac_records.specs.Represents.{items_in, bookings_in, customers_in, opened_bookings}
use Rattle.vac_audit.specs.Walk.{report_of}
use Rattle.vac_audit.proofs.Sound.{Each}
use Rattle.vac_audit.proofs.Reaching.{kind_word}
use Rattle.vac_audit.proofs.Over.{each_as}
use Rattle.vac_audit.proofs.States.{customers_of, state_of, StateLaw}

less : (a b : ℕ) → a < b → nat_cmp a b ≡ Less
less a b l = grind (arith, nat_tests)

items_after : (m : ℕ → ℕ) (k lo : ℕ) (rs : Rows) → k < lo → IsFrom lo rs →
    AllByRecursion (λ y. nat_cmp k y ≡ Less) (keys_of (items_in m rs))
items_after m k lo [] l h = tt
items_after m k lo (r ∷ rs) l h = (
  less k r.0 (omega (arith, l, h.0)),
  items_after m k (r.0 + 1) rs (omega (arith, l, h.0)) h.1,
)

items_sorted : (m : ℕ → ℕ) (lo : ℕ) (rs : Rows) → IsFrom lo rs → IsStrictlySortedBy nat_cmp (keys_of (items_in m rs))
unfolding IsStrictlySortedBy
items_sorted m lo [] h = tt
items_sorted m lo (r ∷ rs) h = (items_after m r.0 (r.0 + 1) rs (omega arith) h.1, items_sorted m (r.0 + 1) rs h.1)

customers_after : (m : ℕ → ℕ) (lists : ℕ → Rows) (k lo : ℕ) (rs : Rows) → k < lo → IsFrom lo rs →
    AllByRecursion (λ y. nat_cmp k y ≡ Less) (keys_of (customers_of m lists rs))
customers_after m lists k lo [] l h = tt
customers_after m lists k lo (r ∷ rs) l h = (
  less k r.0 (omega (arith, l, h.0)),
  customers_after m lists k (r.0 + 1) rs (omega (arith, l, h.0)) h.1,
)

customers_sorted : (m : ℕ → ℕ) (lists : ℕ → Rows) (lo : ℕ) (rs : Rows) → IsFrom lo rs →
    IsStrictlySortedBy nat_cmp (keys_of (customers_of m lists rs))
unfolding IsStrictlySortedBy
customers_sorted m lists lo [] h = tt
customers_sorted m lists lo (r ∷ rs) h = (
  customers_after m lists r.0 (r.0 + 1) rs (omega arith) h.1,
  customers_sorted m lists (r.0 + 1) rs h.1,
)

-- kinds by their numbers
pub number_of : (k : ℕ) → k < 3 → kind_number (kind_of_number k) ≡ k
number_of zero l = refl
number_of (suc zero) l = refl
number_of (suc (suc zero)) l = refl
number_of (suc (suc (suc k))) l = absurd (omega arith)

then_less : (a b : Ordering) → a ≡ Less → ordering_then a b ≡ Less
then_less a b e = ap (λ (z : Ordering). ordering_then z b) e

then_equal : (a b : Ordering) → a ≡ Equal → b ≡ Less → ordering_then a b ≡ Less
then_equal a b e f = ap (λ (z : Ordering). ordering_then z b) e ∙ f

same : (a b : ℕ) → a ≡ b → nat_cmp a b ≡ Equal
same a b l = grind (arith, nat_tests)

place_less : (k i k' i' : ℕ) → k < 3 → k' < 3 → i < 2 ^ 32 → i' < 2 ^ 32 → k * 2 ^ 32 + i < k' * 2 ^ 32 + i' →
    place_cmp (kind_of_number k, i) (kind_of_number k', i') ≡ Less
place_less k i k' i' a b c d l =
    elim (cases_lt k k') [
      | inl below ↦ then_less (nat_cmp (kind_number (kind_of_number k)) (kind_number (kind_of_number k')))
          (nat_cmp i i') (less (kind_number (kind_of_number k)) (kind_number (kind_of_number k'))
          (omega (arith, number_of k a, number_of k' b)))
      | inr from ↦ then_equal (nat_cmp (kind_number (kind_of_number k)) (kind_number (kind_of_number k')))
          (nat_cmp i i') (same (kind_number (kind_of_number k)) (kind_number (kind_of_number k'))
          (omega (arith, number_of k a, number_of k' b))) (less i i' (omega arith))
    ]

-- a booking's kind
pub kind_low : (m : ℕ → ℕ) (n p lo : ℕ) (r : ℕ × ℕ) → IsBookingOfRow m n p lo r → m r.1 < 3
kind_low m n p lo r h = omega (arith, h.kind, kind_word m r.1)

pub code_is : (m : ℕ → ℕ) (n p lo : ℕ) (r : ℕ × ℕ) → IsBookingOfRow m n p lo r → m r.1 * 2 ^ 32 + m (r.1 + 1) ≡ r.0
code_is m n p lo r h = omega (arith, h.key, kind_word m r.1)

bookings_after : (m : ℕ → ℕ) (n p k i lo : ℕ) (rs : Rows) → k < 3 → i < 2 ^ 32 → k * 2 ^ 32 + i < lo →
    Linked m n p lo rs → AllByRecursion (λ y. place_cmp (kind_of_number k, i) y ≡ Less) (keys_of (bookings_in m rs))
bookings_after m n p k i lo [] a c l h = tt
bookings_after m n p k i lo (r ∷ rs) a c l h = (
  place_less k i (m r.1) (m (r.1 + 1)) a (kind_low m n p lo r h.0) c h.0.id
      (omega (arith, h.0.low, l, code_is m n p lo r h.0)),
  bookings_after m n (m (r.1 + 3)) k i (r.0 + 1) rs a c (omega (arith, h.0.low)) h.1,
)

bookings_sorted : (m : ℕ → ℕ) (n p lo : ℕ) (rs : Rows) → Linked m n p lo rs →
    IsStrictlySortedBy place_cmp (keys_of (bookings_in m rs))
unfolding IsStrictlySortedBy
bookings_sorted m n p lo [] h = tt
bookings_sorted m n p lo (r ∷ rs) h = (
  bookings_after m n (m (r.1 + 3)) (m r.1) (m (r.1 + 1)) (r.0 + 1) rs (kind_low m n p lo r h.0) h.0.id
      (omega (arith, code_is m n p lo r h.0)) h.1,
  bookings_sorted m n (m (r.1 + 3)) (r.0 + 1) rs h.1,
)

-- the entries of the maps
pub item_entries : (m : ℕ → ℕ) (lo : ℕ) (rs : Rows) → IsFrom lo rs →
    entries (from_entries {R = nat_cmp} (items_in m rs)) ≡ items_in m rs
item_entries m lo rs h = entries_of_sorted nat_cmp_total (items_in m rs) (items_sorted m lo rs h)

pub customer_entries : (m : ℕ → ℕ) (lists : ℕ → Rows) (lo : ℕ) (rs : Rows) → IsFrom lo rs →
    entries (from_entries {R = nat_cmp} (customers_of m lists rs)) ≡ customers_of m lists rs
customer_entries m lists lo rs h = entries_of_sorted nat_cmp_total (customers_of m lists rs)
    (customers_sorted m lists lo rs h)

pub booking_entries : (m : ℕ → ℕ) (n p lo : ℕ) (rs : Rows) → Linked m n p lo rs →
    entries (from_entries {R = place_cmp} (bookings_in m rs)) ≡ bookings_in m rs
booking_entries m n p lo rs h = entries_of_sorted place_cmp_total (bookings_in m rs) (bookings_sorted m n p lo rs h)

opened_customers : (m : ℕ → ℕ) (n : ℕ) (lists : ℕ → Rows) (rs : Rows) →
    Each (λ r. IsList m n (m (r.1 + 4)) (lists r.1)) rs → opened_bookings
    (customers_of m lists rs) ≡ customers_in m lists rs
opened_customers m n lists [] h = refl
opened_customers m n lists (r ∷ rs) h =
    ap (λ (z : List (Place × Booking)). (r.0, z) ∷ opened_bookings (customers_of m lists rs))
    (booking_entries m n (m (r.1 + 4)) 0 (lists r.1) h.0.linked)
    ∙ ap (λ (z : List (ℕ × List (Place × Booking))). (r.0, bookings_in m (lists r.1)) ∷ z)
    (opened_customers m n lists rs h.1)

-- sums over the entries
length_items : (m : ℕ → ℕ) (rs : Rows) → length (items_in m rs) ≡ length rs
length_items m [] = refl
length_items m (r ∷ rs) = omega (arith, length_items m rs)

length_customers : (m : ℕ → ℕ) (lists : ℕ → Rows) (rs : Rows) → length (customers_of m lists rs) ≡ length rs
length_customers m lists [] = refl
length_customers m lists (r ∷ rs) = omega (arith, length_customers m lists rs)

sum_items_in : (m : ℕ → ℕ) (f : Item → ℕ) (g : ℕ → ℕ) (rs : Rows) → ((a : ℕ) → f (item_in m a) ≡ g a) →
    sum_by f (map (λ e. e.1) (items_in m rs)) ≡ sum_by (λ r. g r.1) rs
sum_items_in m f g [] e = refl
sum_items_in m f g (r ∷ rs) e = omega (
  arith,
  e r.1,
  sum_items_in m f g rs e,
  sum_by-cons f (item_in m r.1) (map (λ e. e.1) (items_in m rs)),
  sum_by-cons (λ (q : ℕ × ℕ). g q.1) r rs,
)

sum_bookings_of : (m : ℕ → ℕ) (f : Booking → ℕ) (g : ℕ → ℕ) (rs : Rows) → ((a : ℕ) → f (booking_in m a) ≡ g a) →
    sum_by f (map (λ e. e.1) (bookings_in m rs)) ≡ sum_by (λ r. g r.1) rs
sum_bookings_of m f g [] e = refl
sum_bookings_of m f g (r ∷ rs) e = omega (
  arith,
  e r.1,
  sum_bookings_of m f g rs e,
  sum_by-cons f (booking_in m r.1) (map (λ e. e.1) (bookings_in m rs)),
  sum_by-cons (λ (q : ℕ × ℕ). g q.1) r rs,
)

sum_customers_of : (m : ℕ → ℕ) (n : ℕ) (lists : ℕ → Rows) (f : Booking → ℕ) (g : ℕ → ℕ) (rs : Rows) →
    ((a : ℕ) → f (booking_in m a) ≡ g a) → Each (λ r. IsList m n (m (r.1 + 4)) (lists r.1)) rs
    → sum_by (λ bs. sum_by f (values bs)) (map (λ e. e.1) (customers_of m lists rs)) ≡ over
    (sum_by (λ r. g r.1)) rs lists
sum_customers_of m n lists f g [] e h = refl
sum_customers_of m n lists f g (r ∷ rs) e h =
    omega (
      arith,
      ap (λ (z : List (Place × Booking)). sum_by f (map (λ e. e.1) z))
          (booking_entries m n (m (r.1 + 4)) 0 (lists r.1) h.0.linked),
      sum_bookings_of m f g (lists r.1) e,
      sum_customers_of m n lists f g rs e h.1,
      sum_by-cons (λ (bs : Bookings). sum_by f (values bs)) (from_entries (bookings_in m (lists r.1)))
          (map (λ e. e.1) (customers_of m lists rs)),
    )

-- a number of a table, of the map and of the rows
table_sum : (m : ℕ → ℕ) (f : Item → ℕ) (g : ℕ → ℕ) (rs : Rows) → ((a : ℕ) → f (item_in m a) ≡ g a) →
    entries (from_entries {R = nat_cmp} (items_in m rs)) ≡ items_in m rs
    → sum_by f (values (from_entries {R = nat_cmp} (items_in m rs))) ≡ sum_by (λ r. g r.1) rs
table_sum m f g rs e h = ap (λ (z : List (ℕ × Item)). sum_by f (map (λ e. e.1) z)) h ∙ sum_items_in m f g rs e

table_length : (m : ℕ → ℕ) (rs : Rows) → entries (from_entries {R = nat_cmp} (items_in m rs)) ≡ items_in m rs →
    len (from_entries {R = nat_cmp} (items_in m rs)) ≡ length rs
table_length m rs h = len-entries (from_entries {R = nat_cmp} (items_in m rs)) ∙
    (ap (λ (z : List (ℕ × Item)). length z) h ∙ length_items m rs)

pub state_law : StateLaw
state_law m blocks p h =
    let e0 = item_entries m 1 (p.tables 0) (h.tables 0 (omega arith)).rises in
    let e1 = item_entries m 1 (p.tables 1) (h.tables 1 (omega arith)).rises in
    let e2 = item_entries m 1 (p.tables 2) (h.tables 2 (omega arith)).rises in
    let e3 = customer_entries m p.lists 1 (p.tables 3) (h.tables 3 (omega arith)).rises in
    let ls = each_as _ (λ r. IsList m (16 + 8 * blocks) (m (r.1 + 4)) (p.lists r.1)) (p.tables 3)
    (λ r o g. g.0) h.lists in
    let c0 : length (p.tables 0) ≡ len (state_of m blocks p).cars = sym (table_length m (p.tables 0) e0) in
    let c1 : length (p.tables 1) ≡ len (state_of m blocks p).flights = sym (table_length m (p.tables 1) e1) in
    let c2 : length (p.tables 2) ≡ len (state_of m blocks p).rooms = sym (table_length m (p.tables 2) e2) in
    let c3 : length (p.tables 3) ≡ len (state_of m blocks p).customers =
    sym (len-entries (state_of m blocks p).customers ∙ (ap (λ (z : List (ℕ × Bookings)). length z) e3 ∙
    length_customers m p.lists (p.tables 3))) in
    let b0 : (report_of m p).bookings ≡ (report (state_of m blocks p)).bookings =
    sym (ap (λ (z : List (ℕ × Bookings)). sum_by units_booked (map (λ e. e.1) z)) e3 ∙
    sum_customers_of m (16 + 8 * blocks) p.lists (λ b. b.units) (λ a. m (a + 4)) (p.tables 3) (λ a. refl) ls) in
    let b1 : (report_of m p).billed ≡ (report (state_of m blocks p)).billed =
    sym (ap (λ (z : List (ℕ × Bookings)). sum_by bill_of (map (λ e. e.1) z)) e3 ∙
    sum_customers_of m (16 + 8 * blocks) p.lists (λ b. b.sum) (λ a. m (a + 2)) (p.tables 3) (λ a. refl) ls) in
    let sums : (f : Item → ℕ) (g : ℕ → ℕ) → ((a : ℕ) → f (item_in m a) ≡ g a) →
    sum_by (λ r. g r.1) (p.tables 2) + (sum_by (λ r. g r.1) (p.tables 1) + (sum_by (λ r. g r.1) (p.tables 0) + 0))
    ≡ sum_by f (values (state_of m blocks p).cars) + sum_by f (values (state_of m blocks p).flights) + sum_by f
    (values (state_of m blocks p).rooms) =
    λ f g e. omega (
      arith,
      table_sum m f g (p.tables 0) e e0,
      table_sum m f g (p.tables 1) e e1,
      table_sum m f g (p.tables 2) e e2,
    ) in
    let u0 : (report_of m p).used ≡ (report (state_of m blocks p)).used =
    sums (λ i. i.used) (λ a. m (a + 4)) (λ a. refl) in
    let u1 : (report_of m p).free ≡ (report (state_of m blocks p)).free =
    sums (λ i. i.free) (λ a. m (a + 5)) (λ a. refl) in
    let u2 : (report_of m p).total ≡ (report (state_of m blocks p)).total =
    sums (λ i. i.total) (λ a. m (a + 6)) (λ a. refl) in (
      record {
        size = refl;
        items = λ kind. elim kind as (λ k. entries (table_of (state_of m blocks p) k) ≡ items_in m
            (p.tables (kind_number k))) [ Car ↦ e0 | Flight ↦ e1 | Room ↦ e2 ];
        customers = ap opened_bookings e3 ∙ opened_customers m (16 + 8 * blocks) p.lists (p.tables 3) ls;
      },
      λ j. record {
        cars = c0 j;
        flights = c1 j;
        rooms = c2 j;
        customers = c3 j;
        bookings = b0 j;
        used = u0 j;
        free = u1 j;
        total = u2 j;
        billed = b1 j;
      },
    )
