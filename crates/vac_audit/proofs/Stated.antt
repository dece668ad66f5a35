-- A memory that represents a balanced state is a sound heap.
use Rattle.std.proofs.Common.{◌≡◌, ◌≢◌, inl, inr, ℕ, ◌+◌, ◌*◌, ◌^◌, ◌<◌, ◌≤◌, false, true, List, [], ◌∷◌, map, Option}
use Rattle.std.proofs.Common.{Some, None, refl, sym, ap, ◌∙◌, subst, arith, nat_eq}
use Rattle.std.specs.Prelude.{Result, Ok, Err, IsSome, sum_by}
use Rattle.std.specs.Option.{option_map_or}
use Rattle.std.proofs.lemmas.Bool.Decides.{nat_tests}
use Rattle.std.proofs.lemmas.Bool.{cases_lt}
use Rattle.std.proofs.lemmas.List.Sums.{sum_by-cons}
use Rattle.std.specs.FinMap.{entries, get-entries, find}
use Rattle.vac_model.specs.declared.items.Booking.{Booking}
use Rattle.vac_model.specs.declared.replies.Report.{Report}
use Rattle.vac_model.specs.State.{State, Bookings, Place, kind_number, place_cmp, item_of, units_of, units_held, report}
use Rattle.vac_model.specs.Balanced.{IsItem}
use Rattle.vac_model.specs.Amounts.{is_id}
use Rattle.vac_model.proofs.Ids.{id_low, id_high}
use Rattle.tx_alloc.specs.Rows.{Rows, IsFrom, block_at}
use Rattle.vac_bookings.specs.Bookings.{Linked, IsList}
use Rattle.tx_tree.specs.Table.{IsTable}
use Rattle.tx_tree.proofs.TableFrame.{table_rises}
use Rattle.vac_model.specs.Coded.{kind_of_number}
use Rattle.vac_records.specs.Bookings.{place_in, place_key, booking_in}
use Rattle.vac_records.specs.Items.{item_in}
use Rattle.vac_records.specs.Heap.{Parts, over}
use Rattle.vac_records.specs.Represents.{Represents, IsState, bookings_in, customers_in, opened_bookings}
use Rattle.vac_records.specs.Laws.{HasBookings}
use Rattle.vac_records.proofs.Items.{item_found, item_missing}
use Rattle.vac_records.proofs.Customers.{customer_found}
use Rattle.vac_records.proofs.Booked.{booking_found}
use Rattle.vac_records.proofs.Keyed.{HasRow, row_times, rises_above, row_at}
use Rattle.vac_records.proofs.Links.{list_row}
use Rattle.vac_records.proofs.TableRows.{table_some}
use Rattle.vac_records.proofs.Single.{one_state}
use Rattle.vac_audit.specs.Walk.{units_in}
use Rattle.vac_audit.proofs.Sound.{Each, IsItemAt, IsBookingRow, IsSound, IsTreeTable}
use Rattle.vac_audit.proofs.States.{state_of}
use Rattle.vac_audit.specs.Laws.{StateClean, FlawedIsNone}
use Rattle.vac_audit.specs.declared.Flaw.{Flaw}
use Rattle.vac_audit.proofs.Found.{clean_law}
use Rattle.vac_audit.proofs.Showing.{number_of, state_law}
use Rattle.vac_audit.proofs.Holding.{units_find}
use Rattle.vac_audit.proofs.Represented.{represented}

-- a fact of each row, from its being a row
each_rows : (P : ℕ × ℕ → Type 0) (rs : Rows) → ((k a : ℕ) → HasRow k a rs → P (k, a)) → Each P rs
each_rows P [] f = tt
each_rows P (r ∷ rs) f = (f r.0 r.1 (inl (refl, refl)), each_rows P rs (λ k a i. f k a (inr i)))

-- a row that exists is found at its key
at_row : (lo k a : ℕ) (rs : Rows) → IsFrom lo rs → HasRow k a rs → block_at rs k ≡ a
at_row lo k a [] f i = absurd i
at_row lo k a (r ∷ rs) f i = elim i [
  | inl e ↦ (let t : nat_eq r.0 k ≡ true = (let q = e.0 in grind (arith, nat_tests)) in rw t e.1)
  | inr later ↦ (
      let above = rises_above (r.0 + 1) k a rs f.1 later in
      let t : nat_eq r.0 k ≡ false = grind (arith, nat_tests) in
      rw t (at_row (r.0 + 1) k a rs f.1 later))
]

list_rises : (m : ℕ → ℕ) (n p lo : ℕ) (rs : Rows) → Linked m n p lo rs → IsFrom lo rs
list_rises m n p lo [] h = tt
list_rises m n p lo (r ∷ rs) h = (h.0.low, list_rises m n (m (r.1 + 3)) (r.0 + 1) rs h.1)

from_one : (rs : Rows) → IsFrom 0 rs → Each (λ r. 1 ≤ r.0) rs → IsFrom 1 rs
from_one [] f h = tt
from_one (r ∷ rs) f h = (h.0, f.1)

first_or : {A : Type 0} → A → List A → A
first_or d [] = d
first_or d (x ∷ xs) = x

rest_of : {A : Type 0} → List A → List A
rest_of [] = []
rest_of (x ∷ xs) = xs

-- the units that a customer has of an item, in the map and in the rows
units_of_list : (m : ℕ → ℕ) (n p k i : ℕ) (b : Bookings) (rs : Rows) → k < 3 → i < 2 ^ 32 → Linked m n p 0 rs →
    entries b ≡ bookings_in m rs → units_of b (kind_of_number k, i) ≡ units_in m (k * 2 ^ 32 + i) rs
units_of_list m n p k i b rs a c h e =
    ap (λ (z : Option Booking). option_map_or (λ (x : Booking). x.units) z 0)
    (get-entries b (kind_of_number k, i) ∙ ap (find place_cmp (kind_of_number k, i)) e)
    ∙ units_find m n p 0 k i rs a c h

-- the units that all customers have of an item
held_rows : (m : ℕ → ℕ) (n : ℕ) (lists : ℕ → Rows) (k i : ℕ) → k < 3 → i < 2 ^ 32 →
    (cs : List (ℕ × Bookings)) (rows : Rows) → Each (λ r. IsList m n (m (r.1 + 4)) (lists r.1)) rows →
    opened_bookings cs ≡ customers_in m lists rows
    → sum_by (λ bs. units_of bs (kind_of_number k, i)) (map (λ (c : ℕ × Bookings). c.1) cs) ≡ over
    (units_in m (k * 2 ^ 32 + i)) rows lists
unfolding first_or rest_of
held_rows m n lists k i a b [] [] h e = refl
held_rows m n lists k i a b [] (r ∷ rs) h e = absurd (let z : ◌≡◌ {A = List (ℕ × List (Place × Booking))} []
    ((r.0, bookings_in m (lists r.1)) ∷ customers_in m lists rs) = e in cc)
held_rows m n lists k i a b (c ∷ cs) [] h e = absurd (let z : ◌≡◌ {A = List (ℕ × List (Place × Booking))}
    ((c.0, entries c.1) ∷ opened_bookings cs) [] = e in cc)
held_rows m n lists k i a b (c ∷ cs) (r ∷ rs) h e =
    let d : ℕ × List (Place × Booking) = (0, []) in
    let first : entries c.1 ≡ bookings_in m (lists r.1) = ap (λ
    (es : List (ℕ × List (Place × Booking))). (first_or d es).1) e in
    let rest : opened_bookings cs ≡ customers_in m lists rs =
    ap (λ (es : List (ℕ × List (Place × Booking))). rest_of es) e in
    omega (
      arith,
      sum_by-cons (λ (bs : Bookings). units_of bs (kind_of_number k, i)) c.1 (map (λ (x : ℕ × Bookings). x.1) cs),
      units_of_list m n (m (r.1 + 4)) k i c.1 (lists r.1) a b h.0.linked first,
      held_rows m n lists k i a b cs rs h.1 rest,
    )

none_there : {A : Type 0} (o : Option A) → IsSome o → o ≡ None → ⊥
none_there {A} None h e = absurd (let z : false ≡ true = h in cc)
none_there {A} (Some x) h e = absurd (let z : ◌≡◌ {A = Option A} (Some x) None = e in cc)

module _ (m : ℕ → ℕ) (blocks : ℕ) (s : State) (h : IsState m (16 + 8 * blocks) s) where
  abbrev words : ℕ
  words = 16 + 8 * blocks

  abbrev rep : Represents m words [] s
  rep = h.represents

  abbrev p : Parts
  p = h.represents.parts

  table : (i : ℕ) → i < 4 → IsTable m words (m (1 + i)) (p.tables i)
  table i l = rep.heap.tables i l

  row_found : (i : ℕ) → i < 4 → (k a : ℕ) → HasRow k a (p.tables i) → block_at (p.tables i) k ≡ a
  row_found i l k a r = at_row 0 k a (p.tables i) (table_rises m words (m (1 + i)) (p.tables i) (table i l)) r

  row_some : (i : ℕ) → i < 4 → (k a : ℕ) → HasRow k a (p.tables i) → a ≢ 0
  row_some i l k a r = table_some m words (m (1 + i)) (p.tables i) (table i l) k a r

  -- a row of a table of items is a balanced item
  item_at : (i : ℕ) → i < 3 → (k a : ℕ) → HasRow k a (p.tables i) → IsItem s (kind_of_number i) k (item_in m a)
  item_at i l k a r =
      let at : block_at (p.tables (kind_number (kind_of_number i))) k ≡ a =
      ap (λ (j : ℕ). block_at (p.tables j) k) (number_of i l) ∙ row_found i (omega arith) k a r in
      h.small.balanced.items (kind_of_number i) k (item_in m a)
      (item_found m words [] s rep (kind_of_number i) k a
      (record { at = at; some = row_some i (omega arith) k a r }))

  bookings_at : (k c : ℕ) → HasRow k c (p.tables 3) → HasBookings m (p.lists c) s k
  bookings_at k c r = customer_found m words [] s rep k c (row_found 3 (omega arith) k c r)
      (row_some 3 (omega arith) k c r)

  id_at : (i : ℕ) → i < 4 → (k a : ℕ) → HasRow k a (p.tables i) → is_id k ≡ true
  id_at i l k a r = elim (cases_lt i 3) [
    | inl below ↦ (item_at i below k a r).id_range
    | inr here ↦ (
        let e : i ≡ 3 = omega arith in
        let b = bookings_at k a (subst (λ (j : ℕ). HasRow k a (p.tables j)) e r) in
        h.small.balanced.customers k b.bookings b.there)
  ]

  list_at : (k c : ℕ) → HasRow k c (p.tables 3) → IsList m words (m (c + 4)) (p.lists c)
  list_at k c r = rep.heap.lists c (row_times k c (p.tables 3) r)

  -- the item of a balanced booking
  item_some : (a : ℕ) → m a < 3 → IsSome (item_of s (kind_of_number (m a)) (m (a + 1))) →
      block_at (p.tables (m a)) (m (a + 1)) ≢ 0
  item_some a l some e =
      none_there (item_of s (kind_of_number (m a)) (m (a + 1))) some
      (item_missing m words [] s rep (kind_of_number (m a)) (m (a + 1))
      (ap (λ (j : ℕ). block_at (p.tables j) (m (a + 1))) (number_of (m a) l) ∙ e))

  booking_at : (k c : ℕ) → HasRow k c (p.tables 3) → (code b : ℕ) → HasRow code b (p.lists c) →
      IsBookingRow m p.tables (code, b)
  booking_at k c r code b j =
      let list = list_at k c r in
      let listed = list_row m words (m (c + 4)) code b (p.lists c) list j in
      let owner = bookings_at k c r in
      let key : place_key (place_in m b) ≡ code = omega (
        arith,
        ap (λ (z : ℕ). z * 2 ^ 32 + m (b + 1)) (number_of (m b) listed.kind),
        listed.key,
      ) in
      let at : block_at (p.lists c) (place_key (place_in m b)) ≡ b =
      ap (block_at (p.lists c)) key ∙ at_row 0 code b (p.lists c)
      (list_rises m words (m (c + 4)) 0 (p.lists c) list.linked) j in
      let some : b ≢ 0 = λ e. absurd (omega (arith, e, listed.block.1.1)) in
      let found = booking_found m words [] s rep k c owner.bookings (place_in m b) b
      (record { at = row_found 3 (omega arith) k c r; some = row_some 3 (omega arith) k c r; there = owner.there })
      (record { small = listed.id; at = at; some = some }) in
      let good = h.small.balanced.bookings k owner.bookings (kind_of_number (m b)) (m (b + 1))
      (booking_in m b) owner.there found in
      let item = item_some b listed.kind good.item in
      let row = row_at (m (b + 1)) (block_at (p.tables (m b)) (m (b + 1))) (p.tables (m b)) refl item in
      record {
        id = id_low (m (b + 1)) (item_at (m b) listed.kind (m (b + 1))
            (block_at (p.tables (m b)) (m (b + 1))) row).id_range;
        some = good.some_units;
        few = good.few_units;
        sum = good.sum_range;
        item = item;
      }

  tree_at : (i : ℕ) → i < 4 → IsTreeTable m words (m (1 + i)) (p.tables i)
  tree_at i l =
      let t = table i l in
      record {
        tree = t.tree;
        is = t.is;
        hangs = t.hangs;
        rises = from_one (p.tables i) t.ascending (each_rows (λ r. 1 ≤ r.0) (p.tables i)
            (λ k a r. id_low k (id_at i l k a r)));
        even = t.even;
        apart = t.apart;
        black = t.black;
      }

  all_lists : Each (λ r. IsList m words (m (r.1 + 4)) (p.lists r.1)) (p.tables 3)
  all_lists = each_rows _ (p.tables 3) list_at

  held_at : (i k : ℕ) → i < 3 → k < 2 ^ 32 → units_held s (kind_of_number i, k) ≡ over (units_in m (i * 2 ^ 32 + k))
      (p.tables 3) p.lists
  held_at i k l high = held_rows m words p.lists i k l high (entries s.customers) (p.tables 3) all_lists rep.customers

  pub sound : IsSound m words p
  sound = record {
    tables = tree_at;
    keys = λ i l. each_rows (λ r. r.0 < 2 ^ 32) (p.tables i) (λ k a r. id_high k (id_at i l k a r));
    items = λ i l. each_rows (λ r. IsItemAt m r.1) (p.tables i) (λ k a r.
        let good = item_at i l k a r in
        record { some = good.some_units; few = good.few_units; sum = good.counts; price = good.price_range });
    lists = each_rows (λ r. IsList m words (m (r.1 + 4)) (p.lists r.1) × Each (IsBookingRow m p.tables) (p.lists r.1))
        (p.tables 3)
        (λ k c r. (list_at k c r, each_rows (IsBookingRow m p.tables) (p.lists c) (booking_at k c r)));
    used = λ i l. each_rows (λ r. m (r.1 + 4) ≡ over (units_in m (i * 2 ^ 32 + r.0)) (p.tables 3) p.lists) (p.tables i)
        (λ k a r.
        let good = item_at i l k a r in
        good.held ∙ held_at i k l (id_high k good.id_range));
    pool = rep.heap.pool;
    none_out = rep.held;
  }

pub state_clean : StateClean
state_clean m blocks s h =
    let p = h.represents.parts in
    let whole = sound m blocks s h in
    let same : state_of m blocks p ≡ s = one_state m (16 + 8 * blocks) [] [] (state_of m blocks p) s
    (represented m blocks p whole) h.represents in
    clean_law m blocks p whole ∙ ap (λ (r : Report). Ok r) ((state_law m blocks p whole).1 ∙ ap report same)

pub flawed_is_none : FlawedIsNone
flawed_is_none m blocks flaw e s h = absurd (let q : ◌≡◌ {A = Result Report Flaw} (Err flaw) (Ok (report s)) =
    sym e ∙ state_clean m blocks s h in cc)
