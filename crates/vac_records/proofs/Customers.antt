-- The effects of commands on customers.
use Rattle.std.proofs.Common.{◌≡◌, ◌≢◌, ◌⊎◌, inl, inr, ℕ, ◌+◌, ◌<◌, List, [], ◌∷◌, map, Option, Some, None, not, nat_eq}
use Rattle.std.proofs.Common.{false, zero-add, refl, sym, ap, ◌∙◌, subst, arith}
use Rattle.std.specs.Option.{option_map}
use Rattle.std.specs.Ordering.{nat_cmp, eq_by_cmp}
use Rattle.std.specs.Cmp.{nat_cmp_total}
use Rattle.std.specs.FinMap.{entries, empty, insert, remove, find, put, get-entries, entries-insert}
use Rattle.std.specs.FinMap.{nat_cmp-IsAntisymmetric}
use Rattle.std.specs.FinMap.Entries.{where_key}
use Rattle.std.proofs.lemmas.Bool.Decides.{nat_tests}
use Rattle.tx_memory.specs.Seen.{same_or}
use Rattle.vac_model.specs.State.{State, Bookings, place_cmp, bookings_of}
use Rattle.vac_model.proofs.Views.{entries-empty}
use Rattle.tx_alloc.specs.Pool.{with_at}
use Rattle.tx_alloc.specs.Rows.{Rows, times, put_row, cut_row}
use Rattle.tx_alloc.proofs.Times.{times_put, times_cut}
use Rattle.tx_alloc.proofs.Sums.{with_here, with_else}
use Rattle.tx_alloc.proofs.Outside.{outside_links}
use Rattle.vac_records.specs.Bookings.{place_in, booking_in}
use Rattle.vac_records.specs.Heap.{Parts, IsHeap}
use Rattle.vac_records.specs.Represents.{items_in, bookings_in, customers_in, opened_bookings, Represents}
use Rattle.vac_records.specs.Laws.{CustomerFound, CustomerMissing, CustomerInserted, CustomerRemoved, IsCustomerAt}
use Rattle.vac_records.proofs.Keyed.{Matches, entries_remove, find_absent, find_present, put_absent, cut_present}
use Rattle.tx_tree.proofs.TableFrame.{table_rises}
use Rattle.vac_records.proofs.TableRows.{table_some}
use Rattle.vac_records.proofs.Insert.{inserted}
use Rattle.vac_records.proofs.Remove.{removed}
use Rattle.vac_records.proofs.Insert as inserting
use Rattle.vac_records.proofs.Remove as removing
use Rattle.vac_records.proofs.Frames.{Entry, items_frame, bookings_frame, customers_frame, opened_put, opened_where}
use Rattle.vac_records.proofs.Frames.{opened_find}
use Rattle.vac_records.proofs.Shifts.{in_table, in_list, table_not_out, list_not_out, list_not_table, cleared}
use Rattle.vac_records.proofs.Shifts.{out_first, shifts_customers}

-- a customer's row and its entry
abbrev pub shelf : (ℕ → ℕ) → (ℕ → Rows) → ℕ × ℕ → ℕ × List Entry
shelf m lists r = (r.0, bookings_in m (lists r.1))

pub shelf_matches : (m : ℕ → ℕ) (lists : ℕ → Rows) (id : ℕ) (rs : Rows) → Matches nat_cmp id id (shelf m lists) rs
shelf_matches m lists id rs k a i = refl

-- a look-up among opened customers
look : (m : ℕ → ℕ) (n : ℕ) (out : List ℕ) (s : State) (h : Represents m n out s) (id : ℕ) (r : Option (List Entry)) →
    find nat_cmp id (customers_in m h.parts.lists (h.parts.tables 3)) ≡ r →
    option_map (λ (b : Bookings). entries b) (bookings_of s id) ≡ r
look m n out s h id r e =
    ap (λ (z : Option Bookings). option_map (λ (b : Bookings). entries b) z) (get-entries s.customers id)
    ∙ (sym (opened_find id (entries s.customers)) ∙ (ap (λ (z : List (ℕ × List Entry)). find nat_cmp id z) h.customers ∙
    e))

some_bookings : (o : Option Bookings) (es : List Entry) → option_map (λ (b : Bookings). entries b) o ≡ Some es →
    (b : Bookings) × ((o ≡ Some b) × (entries b ≡ es))
some_bookings None es e = absurd (let z : ◌≡◌ {A = Option (List Entry)} None (Some es) = e in cc)
some_bookings (Some b) es e = (b, (refl, ap (λ (z : Option (List Entry)). or_else z es) e)) where
  or_else : Option (List Entry) → List Entry → List Entry
  or_else None d = d
  or_else (Some x) d = x

no_bookings : (o : Option Bookings) → option_map (λ (b : Bookings). entries b) o ≡ None → o ≡ None
no_bookings None e = refl
no_bookings (Some b) e = absurd (let z : ◌≡◌ {A = Option (List Entry)} (Some (entries b)) None = e in cc)

pub customer_found : CustomerFound
customer_found m n out s h id c at some =
    let lists = h.parts.lists in
    let e = look m n out s h id (Some (bookings_in m (lists c)))
    (find_present nat_cmp id id (shelf m lists) c (h.parts.tables 3)
    (shelf_matches m lists id (h.parts.tables 3)) at some) in
    let b = some_bookings (bookings_of s id) (bookings_in m (lists c)) e in
    record { bookings = b.0; there = b.1.0; entries_are = b.1.1 }

pub customer_missing : CustomerMissing
customer_missing m n out s h id none =
    let lists = h.parts.lists in
    let rows = h.parts.tables 3 in
    no_bookings (bookings_of s id) (look m n out s h id None
    (find_absent nat_cmp id id (shelf m lists) rows (shelf_matches m lists id rows)
    (table_some m n (m 4) rows (h.heap.tables 3 (omega arith))) none))

-- the bookings of a customer are those of the list
same_value : {X : Type 0} (o : Option X) (x y : X) → o ≡ Some x → o ≡ Some y → x ≡ y
same_value {X} o x y e f = ap (λ (z : Option X). or_else z y) (sym e ∙ f) where
  or_else : Option X → X → X
  or_else None d = d
  or_else (Some x) d = x

pub entries_at : (m : ℕ → ℕ) (n : ℕ) (out : List ℕ) (s : State) (h : Represents m n out s) (id c : ℕ)
    (bookings : Bookings) → IsCustomerAt h id c bookings → entries bookings ≡ bookings_in m (h.parts.lists c)
entries_at m n out s h id c bookings at =
    let f = customer_found m n out s h id c at.at at.some in
    ap (λ (z : Bookings). entries z) (same_value (bookings_of s id) bookings f.bookings at.there f.there) ∙
    f.entries_are

none_in : {A B : Type 0} (g : A → B) (xs : List A) (ys : List B) → ys ≡ map g xs → ys ≡ [] → xs ≡ []
none_in g [] ys e f = refl
none_in {A} {B} g (x ∷ xs) ys e f = absurd (let z : ◌≡◌ {A = List B} [] (g x ∷ map g xs) = sym f ∙ e in cc)

pub customer_inserted : CustomerInserted
unfolding shifts_customers
customer_inserted m m' n b out s id bb h none zero_head grown =
    let p = h.parts in
    let rows = p.tables 3 in
    let l4 : 3 < 4 = omega arith in
    let ob = out_first p b out h.held in
    let no_customer : times b rows ≡ 0 = elim (same_or (times b rows) 0) [
      | inl z ↦ z
      | inr nz ↦ absurd (table_not_out m n p h.heap 3 b b l4 (omega arith) ob refl)
    ] in
    let ls : ℕ → Rows = with_at p.lists b [] in
    let q : Parts = record p { lists = ls } in
    let g : IsHeap m n q = cleared m n p h.heap b no_customer in
    let bare : q.lists b ≡ [] = with_here p.lists b b [] refl in
    let zero : (m (b + 4) ≡ 0) ⊎ (3 < 3) = inl zero_head in
    let heap = inserted m m' n 3 id b out q g l4 bb h.held bare zero grown.table grown.relinks in
    let blocks = inserting.blocks m m' n 3 id b out q g l4 bb h.held bare zero grown.table grown.relinks in
    let list_same : (c : ℕ) → 0 < times c rows → bookings_in m (ls c) ≡ bookings_in m (p.lists c) = λ c o. (
    let nc : c ≢ b = table_not_out m n p h.heap 3 c b l4 o ob in ap (bookings_in m) (with_else p.lists b c [] nc)) in
    let old : customers_in m ls rows ≡ customers_in m p.lists rows = customers_frame m m p.lists ls rows list_same in
    let new : (c : ℕ) → 0 < times c (put_row rows id b) → bookings_in m' (ls c) ≡ bookings_in m (ls c) =
    λ c o. bookings_frame m m' (ls c) (λ a k o' nk less. elim (same_or c b) [
      | inl e ↦ (let z : 0 < times a [] = subst (λ (w : Rows). 0 < times a w) (ap ls e ∙ bare) o' in
          absurd (omega (arith, z)))
      | inr nc ↦ (
          let t : times c rows ≡ times c (put_row rows id b) =
          (let f : nat_eq b c ≡ false = grind (arith, nat_tests) in
          sym (times_put c id b rows ∙ rw (f, zero-add) refl)) in
          let oc : 0 < times c rows = omega (arith, o, t) in
          let is = with_else p.lists b c [] nc in
          let oa : 0 < times a (p.lists c) = subst (λ (w : Rows). 0 < times a w) is o' in
          let ba = in_list m n p h.heap c a oc oa in
          let na : a ≢ b = list_not_out m n p h.heap c a b oc oa ob in
          let far : times a rows ≡ 0 = elim (same_or (times a rows) 0) [
            | inl z ↦ z
            | inr nz ↦
                absurd (list_not_table m n p h.heap c a 3 a oc oa l4 (omega arith) refl)
          ] in
          inserting.same m m' n 3 id b out q g l4 bb h.held bare zero grown.table grown.relinks a k ba far na less)
    ]) in
    let after = shifts_customers m m' n (b ∷ out) out s h (insert s.customers id empty)
    (record q { tables = with_at q.tables 3 (put_row (q.tables 3) id b); out = out }) heap refl
    (λ j lj.
    let ne : j ≢ 3 = omega (arith, lj) in
    let is = with_else p.tables 3 j (put_row rows id b) ne in
    ap (items_in m') is ∙ items_frame m m' (p.tables j) (λ a k o low less.
    let ba = in_table m n p h.heap j a (omega arith) o in
    outside_links m m' n 4 a k (put_row rows id b) grown.relinks blocks ba low less (omega (arith, ba.1.1))))
    (let is : with_at p.tables 3 (put_row rows id b) 3 ≡ put_row rows id b =
    with_here p.tables 3 3 (put_row rows id b) refl in
    let first : shelf m ls (id, b) ≡ (id, []) = ap (λ (z : Rows). (id, bookings_in m z)) bare in
    ap opened_bookings (entries-insert nat_cmp_total s.customers id empty) ∙ (opened_put id empty (entries s.customers)
    ∙ (ap (λ (z : List Entry). put nat_cmp id z (opened_bookings (entries s.customers))) (entries-empty place_cmp)
    ∙ (ap (λ (z : List (ℕ × List Entry)). put nat_cmp id [] z) (h.customers ∙ sym old)
    ∙ (put_absent nat_cmp id id (shelf m ls) [] 0 b rows (table_rises m n (m 4) rows (h.heap.tables 3 l4))
    (shelf_matches m ls id rows) (table_some m n (m 4) rows (h.heap.tables 3 l4)) none first
    ∙ (sym (customers_frame m m' ls ls (put_row rows id b) new) ∙ ap (customers_in m' ls) (sym is))))))) in
    record {
      after = after;
      table = with_here p.tables 3 3 (put_row rows id b) refl;
      tables = λ j lj ne. with_else p.tables 3 j (put_row rows id b) ne;
    }

pub customer_removed : CustomerRemoved
unfolding shifts_customers
customer_removed m m' n out s id c h at cut =
    let p = h.parts in
    let rows = p.tables 3 in
    let l4 : 3 < 4 = omega arith in
    let none_there : p.lists c ≡ [] = none_in (λ (r : ℕ × ℕ). (place_in m r.1, booking_in m r.1)) (p.lists c)
    (entries empty) (entries_at m n out s h id c empty at) (entries-empty place_cmp) in
    let none : (3 < 3) ⊎ (p.lists c ≡ []) = inr none_there in
    let heap = removed m m' n 3 id c p h.heap l4 at.at at.some none cut.table cut.relinks in
    let blocks = removing.blocks m m' n 3 id c p h.heap l4 at.at at.some none cut.table cut.relinks in
    let after = shifts_customers m m' n out (c ∷ out) s h (remove s.customers id)
    (record p { tables = with_at p.tables 3 (cut_row rows id); out = c ∷ p.out }) heap
    (ap (λ (z : List ℕ). c ∷ z) h.held)
    (λ j lj.
    let ne : j ≢ 3 = omega (arith, lj) in
    let is = with_else p.tables 3 j (cut_row rows id) ne in
    ap (items_in m') is ∙ items_frame m m' (p.tables j) (λ a k o low less.
    let ba = in_table m n p h.heap j a (omega arith) o in
    outside_links m m' n 4 a k rows cut.relinks blocks ba low less (omega (arith, ba.1.1))))
    (let is : with_at p.tables 3 (cut_row rows id) 3 ≡ cut_row rows id =
    with_here p.tables 3 3 (cut_row rows id) refl in
    ap opened_bookings (entries_remove nat_cmp_total nat_cmp-IsAntisymmetric s.customers id)
    ∙ (opened_where (λ x. not (eq_by_cmp nat_cmp id x)) (entries s.customers)
    ∙ (ap (λ (z : List (ℕ × List Entry)). where_key nat_cmp (λ x. not (eq_by_cmp nat_cmp id x)) z) h.customers
    ∙ (cut_present nat_cmp id id (shelf m p.lists) 0 rows (table_rises m n (m 4) rows (h.heap.tables 3 l4))
    (shelf_matches m p.lists id rows)
    ∙ (sym (customers_frame m m' p.lists p.lists (cut_row rows id) (λ d o.
    let od : 0 < times d rows = omega (arith, o, times_cut d id c rows at.at at.some) in
    bookings_frame m m' (p.lists d) (λ a k o' nk less.
    let ba = in_list m n p h.heap d a od o' in
    let far : times a rows ≡ 0 = elim (same_or (times a rows) 0) [
      | inl z ↦ z
      | inr nz ↦
          absurd (list_not_table m n p h.heap d a 3 a od o' l4 (omega arith) refl)
    ] in
    removing.same m m' n 3 id c p h.heap l4 at.at at.some none cut.table cut.relinks a k ba far less)))
    ∙ ap (customers_in m' p.lists) (sym is)))))) in
    record {
      after = after;
      table = with_here p.tables 3 3 (cut_row rows id) refl;
      tables = λ j lj ne. with_else p.tables 3 j (cut_row rows id) ne;
    }
