-- The sums over a table are those over its rows.
use Rattle.std.proofs.Common.{◌≡◌, ℕ, ◌+◌, List, [], ◌∷◌, length, map, sum_by, refl, sym, ap, ◌∙◌, arith}
use Rattle.std.proofs.lemmas.List.Sums.{sum_by-cons}
use Rattle.std.specs.FinMap.{entries, values, len, len-entries}
use Rattle.vac_model.specs.declared.items.Item.{Item}
use Rattle.vac_model.specs.declared.items.Booking.{Booking}
use Rattle.vac_model.specs.State.{ItemTable, Bookings, Place}
use Rattle.tx_alloc.specs.Rows.{Rows}
use Rattle.vac_records.specs.Items.{item_in}
use Rattle.vac_records.specs.Bookings.{booking_in}
use Rattle.vac_records.specs.Heap.{over}
use Rattle.vac_records.specs.Represents.{items_in, bookings_in, customers_in, opened_bookings}
use Rattle.vac_tasks.specs.Sums.{words_at}

length_map : {A B : Type 0} (g : A → B) (xs : List A) → length (map g xs) ≡ length xs
length_map g [] = refl
length_map g (x ∷ xs) = omega (arith, length_map g xs)

items_words : (f : Item → ℕ) (m : ℕ → ℕ) (place : ℕ) → ((a : ℕ) → f (item_in m a) ≡ m (a + place)) → (rows : Rows) →
    sum_by f (map (λ (e : ℕ × Item). e.1) (items_in m rows)) ≡ words_at m place rows
items_words f m place is [] = refl
items_words f m place is (r ∷ rs) = omega (
  arith,
  sum_by-cons f (item_in m r.1)
      (map (λ (e : ℕ × Item). e.1) (items_in m rs)),
  items_words f m place is rs,
  is r.1,
)

-- a number of each item
pub table_words : (f : Item → ℕ) (m : ℕ → ℕ) (place : ℕ) (t : ItemTable) (rows : Rows) →
    ((a : ℕ) → f (item_in m a) ≡ m (a + place)) → entries t ≡ items_in m rows →
    sum_by f (values t) ≡ words_at m place rows
table_words f m place t rows is e = ap (λ (es : List (ℕ × Item)). sum_by f (map (λ (x : ℕ × Item). x.1) es)) e ∙
    items_words f m place is rows

pub table_len : (m : ℕ → ℕ) (t : ItemTable) (rows : Rows) → entries t ≡ items_in m rows → len t ≡ length rows
table_len m t rows e = len-entries t ∙ (ap (λ (es : List (ℕ × Item)). length es) e ∙
    length_map (λ (r : ℕ × ℕ). (r.0, item_in m r.1)) rows)

bookings_words : (f : Booking → ℕ) (m : ℕ → ℕ) (place : ℕ) → ((a : ℕ) → f (booking_in m a) ≡ m (a + place)) →
    (rows : Rows) → sum_by f (map (λ (e : Place × Booking). e.1) (bookings_in m rows)) ≡ words_at m place rows
bookings_words f m place is [] = refl
bookings_words f m place is (r ∷ rs) = omega (
  arith,
  sum_by-cons f (booking_in m r.1)
      (map (λ (e : Place × Booking). e.1) (bookings_in m rs)),
  bookings_words f m place is rs,
  is r.1,
)

-- a number of each booking of a customer
pub list_words : (f : Booking → ℕ) (m : ℕ → ℕ) (place : ℕ) → ((a : ℕ) → f (booking_in m a) ≡ m (a + place)) →
    (bookings : Bookings) (rows : Rows) → entries bookings ≡ bookings_in m rows →
    sum_by f (values bookings) ≡ words_at m place rows
list_words f m place is bookings rows e = ap (λ (es : List (Place × Booking)). sum_by f
    (map (λ (x : Place × Booking). x.1) es)) e ∙ bookings_words f m place is rows

first_or : {A : Type 0} → A → List A → A
first_or d [] = d
first_or d (x ∷ xs) = x

rest_of : {A : Type 0} → List A → List A
rest_of [] = []
rest_of (x ∷ xs) = xs

-- a number of each customer
pub customers_words : (g : Bookings → ℕ) (f : Rows → ℕ) (m : ℕ → ℕ) (lists : ℕ → Rows) →
    ((b : Bookings) (rs : Rows) → entries b ≡ bookings_in m rs → g b ≡ f rs) →
    (cs : List (ℕ × Bookings)) (rows : Rows) → opened_bookings cs ≡ customers_in m lists rows →
    sum_by g (map (λ (c : ℕ × Bookings). c.1) cs) ≡ over f rows lists
unfolding first_or rest_of
customers_words g f m lists is [] [] e = refl
customers_words g f m lists is [] (r ∷ rs) e = absurd (let z : ◌≡◌ {A = List (ℕ × List (Place × Booking))} []
    ((r.0, bookings_in m (lists r.1)) ∷ customers_in m lists rs) = e in cc)
customers_words g f m lists is (c ∷ cs) [] e = absurd (let z : ◌≡◌ {A = List (ℕ × List (Place × Booking))}
    ((c.0, entries c.1) ∷ opened_bookings cs) [] = e in cc)
customers_words g f m lists is (c ∷ cs) (r ∷ rs) e =
    let d : ℕ × List (Place × Booking) = (0, []) in
    let first : entries c.1 ≡ bookings_in m (lists r.1) = ap (λ
    (es : List (ℕ × List (Place × Booking))). (first_or d es).1) e in
    let rest : opened_bookings cs ≡ customers_in m lists rs =
    ap (λ (es : List (ℕ × List (Place × Booking))). rest_of es) e in
    omega (
      arith,
      sum_by-cons g c.1 (map (λ (x : ℕ × Bookings). x.1) cs),
      is c.1 (lists r.1) first,
      customers_words g f m lists is cs rs rest,
    )

pub customers_len : (m : ℕ → ℕ) (lists : ℕ → Rows) (cs : List (ℕ × Bookings)) (rows : Rows) →
    opened_bookings cs ≡ customers_in m lists rows → length cs ≡ length rows
customers_len m lists cs rows e =
    sym (length_map (λ (c : ℕ × Bookings). (c.0, entries c.1)) cs)
    ∙ (ap (λ (es : List (ℕ × List (Place × Booking))). length es) e ∙
    length_map (λ (r : ℕ × ℕ). (r.0, bookings_in m (lists r.1))) rows)
