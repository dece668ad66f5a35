-- Entries that are read off words that are as before, and the customers of a state with their
-- bookings opened.
use Rattle.std.proofs.Common.{◌≡◌, ◌≢◌, ℕ, ◌+◌, ◌<◌, ◌≤◌, Bool, cond, List, [], ◌∷◌, map, length, sum_by, Some, true}
use Rattle.std.proofs.Common.{false, refl, ap, arith, add-zero}
use Rattle.std.specs.Option.{option_map}
use Rattle.std.specs.declared.cmp.Ordering.TheVariants.{Less, Equal, Greater}
use Rattle.std.specs.Ordering.{nat_cmp, eq_by_cmp}
use Rattle.std.specs.FinMap.{entries, same_entries_map, find, put, len, len-entries}
use Rattle.std.specs.FinMap.Entries.{where_key, by_order}
use Rattle.std.proofs.lemmas.List.Sums.{sum_by-cons}
use Rattle.vac_model.specs.declared.items.Item.{Item}
use Rattle.vac_model.specs.declared.items.Booking.{Booking}
use Rattle.vac_model.specs.State.{Bookings, Place}
use Rattle.tx_alloc.specs.Rows.{Rows, times}
use Rattle.vac_records.specs.Items.{item_in}
use Rattle.vac_model.specs.Coded.{kind_of_number}
use Rattle.vac_records.specs.Bookings.{place_in, booking_in}
use Rattle.vac_records.specs.Heap.{over}
use Rattle.vac_records.specs.Represents.{items_in, bookings_in, customers_in, opened_bookings}
use Rattle.vac_records.proofs.Keyed.{map_same, row_times}

abbrev pub Entry : Type 0
Entry = Place × Booking

pub item_same : (m m' : ℕ → ℕ) (a : ℕ) → ((k : ℕ) → 4 ≤ k → k < 8 → m' (a + k) ≡ m (a + k)) → item_in m' a ≡ item_in m a
item_same m m' a same =
    let u = same 4 (omega arith) (omega arith) in let f = same 5 (omega arith) (omega arith) in
    let t = same 6 (omega arith) (omega arith) in let p = same 7 (omega arith) (omega arith) in
    λ i. record { used = u i; free = f i; total = t i; price = p i }

pub booking_same : (m m' : ℕ → ℕ) (a : ℕ) → ((k : ℕ) → k ≢ 3 → k < 8 → m' (a + k) ≡ m (a + k)) →
    ◌≡◌ {A = Entry} (place_in m' a, booking_in m' a) (place_in m a, booking_in m a)
booking_same m m' a same =
    let kind_is : m' a ≡ m a = rw add-zero at (same 0 (omega arith) (omega arith)) in
    let id_is = same 1 (omega arith) (omega arith) in let sum_is = same 2 (omega arith) (omega arith) in
    let units_is = same 4 (omega arith) (omega arith) in
    λ i. ((kind_of_number (kind_is i), id_is i), record { units = units_is i; sum = sum_is i })

pub items_frame : (m m' : ℕ → ℕ) (rs : Rows) → ((a k : ℕ) → 0 < times a rs → 4 ≤ k → k < 8 → m' (a + k) ≡ m (a + k)) →
    items_in m' rs ≡ items_in m rs
items_frame m m' rs same =
    map_same (λ r. (r.0, item_in m r.1)) (λ r. (r.0, item_in m' r.1)) rs
    (λ k a i. let e = item_same m m' a (λ j l g. same a j (row_times k a rs i) l g) in ap (λ (x : Item). (k, x)) e)

pub bookings_frame : (m m' : ℕ → ℕ) (rs : Rows) → ((a k : ℕ) → 0 < times a rs → k ≢ 3 → k < 8 →
    m' (a + k) ≡ m (a + k)) → bookings_in m' rs ≡ bookings_in m rs
bookings_frame m m' rs same =
    map_same (λ r. (place_in m r.1, booking_in m r.1)) (λ r. (place_in m' r.1, booking_in m' r.1)) rs
    (λ k a i. booking_same m m' a (λ j ne g. same a j (row_times k a rs i) ne g))

pub customers_frame : (m m' : ℕ → ℕ) (lists lists' : ℕ → Rows) (rs : Rows) →
    ((c : ℕ) → 0 < times c rs → bookings_in m' (lists' c) ≡ bookings_in m (lists c)) →
    customers_in m' lists' rs ≡ customers_in m lists rs
customers_frame m m' lists lists' rs same =
    map_same (λ r. (r.0, bookings_in m (lists r.1))) (λ r. (r.0, bookings_in m' (lists' r.1))) rs
    (λ k a i. ap (λ (x : List Entry). (k, x)) (same a (row_times k a rs i)))

abbrev Opened : Type 0
Opened = ℕ × List Entry

pub opened_put : (id : ℕ) (v : Bookings) (cs : List (ℕ × Bookings)) →
    opened_bookings (put nat_cmp id v cs) ≡ put nat_cmp id (entries v) (opened_bookings cs)
opened_put id v [] = refl
opened_put id v (c ∷ cs) =
    elim (nat_cmp id c.0) as (λ o. opened_bookings (by_order o ((id, v) ∷ c ∷ cs) ((c.0, v) ∷ cs)
    (c ∷ put nat_cmp id v cs)) ≡
    by_order o ((id, entries v) ∷ (c.0, entries c.1) ∷ opened_bookings cs) ((c.0, entries v) ∷ opened_bookings cs)
    ((c.0, entries c.1) ∷ put nat_cmp id (entries v) (opened_bookings cs))) [
      | Less ↦ refl
      | Equal ↦ refl
      | Greater ↦ ap (λ (z : List Opened). (c.0, entries c.1) ∷ z) (opened_put id v cs)
    ]

pub opened_where : (p : ℕ → Bool) (cs : List (ℕ × Bookings)) →
    opened_bookings (where_key nat_cmp p cs) ≡ where_key nat_cmp p (opened_bookings cs)
opened_where p [] = refl
opened_where p (c ∷ cs) =
    elim (p c.0) as (λ b. opened_bookings (cond b (c ∷ where_key nat_cmp p cs) (where_key nat_cmp p cs)) ≡ cond b
    ((c.0, entries c.1) ∷ where_key nat_cmp p (opened_bookings cs)) (where_key nat_cmp p (opened_bookings cs))) [
      | true ↦ ap (λ (z : List Opened). (c.0, entries c.1) ∷ z) (opened_where p cs)
      | false ↦ opened_where p cs
    ]

pub opened_find : (id : ℕ) (cs : List (ℕ × Bookings)) → find nat_cmp id (opened_bookings cs) ≡ option_map
    (λ (b : Bookings). entries b) (find nat_cmp id cs)
opened_find id [] = refl
opened_find id (c ∷ cs) =
    elim (eq_by_cmp nat_cmp id c.0) as (λ b. cond b (Some (entries c.1))
    (find nat_cmp id (opened_bookings cs)) ≡ option_map
    (λ (b : Bookings). entries b) (cond b (Some c.1) (find nat_cmp id cs))) [
      | true ↦ refl
      | false ↦ opened_find id cs
    ]

-- the number of entries of all customers' bookings
abbrev pub lengths : List Opened → ℕ
lengths [] = 0
lengths (c ∷ cs) = length c.1 + lengths cs

pub length_same : {A B : Type 0} (g : A → B) (xs : List A) → length (map g xs) ≡ length xs
length_same g [] = refl
length_same g (x ∷ xs) = omega (arith, length_same g xs)

pub lengths_opened : (cs : List (ℕ × Bookings)) → lengths (opened_bookings cs) ≡ sum_by (λ (b : Bookings). len b)
    (map (λ (c : ℕ × Bookings). c.1) cs)
lengths_opened [] = refl
lengths_opened (c ∷ cs) = omega (
  arith,
  lengths_opened cs,
  len-entries c.1,
  sum_by-cons (λ (b : Bookings). len b) c.1 (map (λ (c : ℕ × Bookings). c.1) cs),
)

pub lengths_customers : (m : ℕ → ℕ) (lists : ℕ → Rows) (rs : Rows) →
    lengths (customers_in m lists rs) ≡ over (λ (z : Rows). length z) rs lists
lengths_customers m lists [] = refl
lengths_customers m lists (r ∷ rs) = omega (
  arith,
  lengths_customers m lists rs,
  length_same {B = Entry} (λ (x : ℕ × ℕ). (place_in m x.1, booking_in m x.1)) (lists r.1),
)

opened_first : (c d : ℕ × Bookings) → c.0 ≡ d.0 → entries c.1 ≡ entries d.1 → c ≡ d
opened_first c d e f = let g = same_entries_map c.1 d.1 f in λ i. (e i, g i)

abbrev first_of_list : {A : Type 0} (d : A) (xs : List A) → A
first_of_list d [] = d
first_of_list d (x ∷ xs) = x

abbrev rest_of_list : {A : Type 0} (xs : List A) → List A
rest_of_list [] = []
rest_of_list (x ∷ xs) = xs

-- opened customers are those of one list
pub opened_one : (cs ds : List (ℕ × Bookings)) → opened_bookings cs ≡ opened_bookings ds → cs ≡ ds
opened_one [] [] e = refl
opened_one [] (d ∷ ds) e = absurd (let z : ◌≡◌ {A = List Opened} [] ((d.0, entries d.1) ∷ opened_bookings ds) = e in cc)
opened_one (c ∷ cs) [] e = absurd (let z : ◌≡◌ {A = List Opened} ((c.0, entries c.1) ∷ opened_bookings cs) [] = e in cc)
opened_one (c ∷ cs) (d ∷ ds) e =
    let head : ◌≡◌ {A = Opened} (c.0, entries c.1) (d.0, entries d.1) = ap (first_of_list (c.0, entries c.1)) e in
    let first : c ≡ d = opened_first c d (ap (λ (x : Opened). x.0) head) (ap (λ (x : Opened). x.1) head) in
    let rest : cs ≡ ds = opened_one cs ds (ap (λ (z : List Opened). rest_of_list z) e) in
    λ i. first i ∷ rest i
