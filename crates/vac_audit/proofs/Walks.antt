-- The three tables of items, and the customers.
use Rattle.std.proofs.Common.{◌≡◌, ℕ, ◌+◌, ◌≤◌, Bool, List, [], ◌∷◌, ◌++◌, length, suc, refl, ap, ◌∙◌, subst, arith}
use Rattle.std.proofs.Common.{true, false}
use Rattle.std.specs.Prelude.{Result, Ok, Err, MatchResult, slice_index}
use Rattle.tx_alloc.specs.Pool.{with_at}
use Rattle.tx_alloc.specs.Rows.{Rows}
use Rattle.vac_model.specs.declared.items.Kind.{Kind}
use Rattle.vac_model.specs.declared.items.Kind.TheVariants.{Car, Flight, Room}
use Rattle.vac_audit.specs.Walk.{Seen, look_at_item, walk_table, walk_items}
use Rattle.vac_audit.specs.Noted.{InOrder, noted_of}
use Rattle.vac_audit.specs.Marks.{Marks, Counting, unmarked}
use Rattle.vac_audit.specs.TreeRan.{ItemsNoted, TableRan, Faulted}
use Rattle.vac_audit.specs.Ran.{Blank, ItemsRan, Uncounted, CustomersRan}
use Rattle.vac_audit.specs.declared.Flaw.{Flaw}
use Rattle.vac_audit.specs.declared.notes.NotedItem.{NotedItem}
use Rattle.vac_audit.specs.declared.notes.Notes.{Notes}
use Rattle.vac_audit.specs.declared.tree.Fault.{Fault}
use Rattle.vac_audit.specs.declared.tree.Fault.TheVariants.{Memory, Found}
use Rattle.vac_audit.specs.declared.tree.Table.TheVariants.{Items, Customers}
use Rattle.vac_audit.specs.declared.audit.Kinds.{Kinds}
use Rattle.vac_audit.proofs.Noted.{booked_none}
use Rattle.vac_audit.proofs.Running.{then_err}
use Rattle.vac_audit.proofs.Steps.{then_with}

pub unmarked_few : (marks : List Bool) → unmarked marks ≤ length marks
unmarked_few [] = omega arith
unmarked_few (true ∷ marks) = omega (arith, unmarked_few marks)
unmarked_few (false ∷ marks) = omega (arith, unmarked_few marks)

abbrev pub tables_of : Rows → Rows → Rows → ℕ → Rows
tables_of a b c = with_at (with_at (with_at (λ _. []) 0 a) 1 b) 2 c

-- the definition's walk of the three tables
module _ (m : ℕ → ℕ) (n levels : ℕ) (s : Seen) where
  pub first_ok : (a : Rows) (s1 : Seen) → walk_table m n (look_at_item m) levels 1 s ≡ Ok (a, s1) →
      walk_items m n levels 1 s ≡ Ok (with_at (λ _. []) 0 a, s1)
  first_ok a s1 e = then_with (walk_table m n (look_at_item m) levels 1 s) _ (a, s1) _ e refl

  pub first_err : (f : Flaw) → walk_table m n (look_at_item m) levels 1 s ≡ Err f → walk_items m n levels 1 s ≡ Err f
  first_err f e = then_err (walk_table m n (look_at_item m) levels 1 s) _ f e

  module _ (k : ℕ) (x : (ℕ → Rows) × Seen) (so_far : walk_items m n levels k s ≡ Ok x) where
    pub next_ok : (b : Rows) (s' : Seen) → walk_table m n (look_at_item m) levels (1 + k) x.1 ≡ Ok (b, s') →
        walk_items m n levels (suc k) s ≡ Ok (with_at x.0 k b, s')
    next_ok b s' e = then_with (walk_items m n levels k s) _ x _ so_far
        (then_with (walk_table m n (look_at_item m) levels (1 + k) x.1) _ (b, s') _ e refl)

    pub next_err : (f : Flaw) → walk_table m n (look_at_item m) levels (1 + k) x.1 ≡ Err f →
        walk_items m n levels (suc k) s ≡ Err f
    next_err f e = then_with (walk_items m n levels k s) _ x _ so_far
        (then_err (walk_table m n (look_at_item m) levels (1 + k) x.1) _ f e)

  pub later_err : (k : ℕ) (f : Flaw) → walk_items m n levels k s ≡ Err f → walk_items m n levels (suc k) s ≡ Err f
  later_err k f e = then_err (walk_items m n levels k s) _ f e

-- a table of items, with the levels of the start
abbrev pub TableAt : List ℕ → ℕ → List Bool → Notes → Notes → Kind → ℕ → Result ℕ Fault → Seen → Type 0
TableAt words levels marks' notes notes' kind root result s = MatchResult result
    (λ nodes. (x : Rows × Seen) × ((walk_table (slice_index words) (length words)
    (look_at_item (slice_index words)) levels root s ≡ Ok x)
    × Marks marks' x.1.blocks × (nodes ≡ length x.0) × ItemsNoted (slice_index words) kind notes notes' x.0))
    (λ fault. Faulted fault (λ flaw. walk_table (slice_index words) (length words)
    (look_at_item (slice_index words)) levels root s ≡ Err flaw))

pub table_at : (words : List ℕ) (blocks : ℕ) (marks marks' : List Bool) (notes notes' : Notes) (kind : Kind) (root : ℕ)
    (result : Result ℕ Fault) (s : Seen) → length marks ≡ blocks
    → TableRan words marks marks' notes notes' (Items kind) root result → Marks marks s.blocks →
    TableAt words (suc blocks) marks' notes notes' kind root result s
table_at words blocks marks marks' notes notes' kind root result s e f a =
    subst (λ (z : ℕ). TableAt words (suc z) marks' notes notes' kind root result s) e (f (λ _. []) tt s a)

module _ (words : List ℕ) (marks0 : List Bool) where
  pub items_first : (marks1 : List Bool) (notes0 notes1 : Notes) (fault : Fault) →
      TableRan words marks0 marks1 notes0 notes1 (Items Car) 1 (Err fault) →
      ItemsRan words marks0 marks1 notes1 (Err fault)
  items_first marks1 notes0 notes1 Memory f s a = tt
  items_first marks1 notes0 notes1 (Found flaw) f s a =
      let e = table_at words (length marks0) marks0 marks1 notes0 notes1 Car 1 (Err (Found flaw)) s refl f a in
      later_err (slice_index words) (length words) (suc (length marks0)) s 2 flaw
      (later_err (slice_index words) (length words) (suc (length marks0)) s 1 flaw
      (first_err (slice_index words) (length words) (suc (length marks0)) s flaw e))

  pub items_second : (marks1 marks2 : List Bool) (notes0 notes1 notes2 : Notes) (cars : ℕ) (fault : Fault) →
      TableRan words marks0 marks1 notes0 notes1 (Items Car) 1 (Ok cars) → length marks1 ≡ length marks0
      → TableRan words marks1 marks2 notes1 notes2 (Items Flight) 2 (Err fault) →
      ItemsRan words marks0 marks2 notes2 (Err fault)
  items_second marks1 marks2 notes0 notes1 notes2 cars Memory f size g s a = tt
  items_second marks1 marks2 notes0 notes1 notes2 cars (Found flaw) f size g s a =
      let x = table_at words (length marks0) marks0 marks1 notes0 notes1 Car 1 (Ok cars) s refl f a in
      let e = table_at words (length marks0) marks1 marks2 notes1 notes2 Flight 2
      (Err (Found flaw)) x.0.1 size g x.1.1 in
      later_err (slice_index words) (length words) (suc (length marks0)) s 2 flaw
      (next_err (slice_index words) (length words) (suc (length marks0)) s 1 _
      (first_ok (slice_index words) (length words) (suc (length marks0)) s x.0.0 x.0.1 x.1.0) flaw e)

  pub items_third : (marks1 marks2 marks3 : List Bool) (notes0 notes1 notes2 notes3 : Notes) (cars flights : ℕ)
      (fault : Fault) → TableRan words marks0 marks1 notes0 notes1 (Items Car) 1 (Ok cars) →
      length marks1 ≡ length marks0
      → TableRan words marks1 marks2 notes1 notes2 (Items Flight) 2 (Ok flights) → length marks2 ≡ length marks0 →
      TableRan words marks2 marks3 notes2 notes3 (Items Room) 3 (Err fault) →
      ItemsRan words marks0 marks3 notes3 (Err fault)
  items_third marks1 marks2 marks3 notes0 notes1 notes2 notes3 cars flights Memory f size g size' h s a = tt
  items_third marks1 marks2 marks3 notes0 notes1 notes2 notes3 cars flights (Found flaw) f size g size' h s a =
      let x = table_at words (length marks0) marks0 marks1 notes0 notes1 Car 1 (Ok cars) s refl f a in
      let y = table_at words (length marks0) marks1 marks2 notes1 notes2 Flight 2 (Ok flights) x.0.1 size g x.1.1 in
      let e = table_at words (length marks0) marks2 marks3 notes2 notes3 Room 3
      (Err (Found flaw)) y.0.1 size' h y.1.1 in
      next_err (slice_index words) (length words) (suc (length marks0)) s 2 _
      (next_ok (slice_index words) (length words) (suc (length marks0)) s 1 _
      (first_ok (slice_index words) (length words) (suc (length marks0)) s x.0.0 x.0.1 x.1.0) y.0.0 y.0.1 y.1.0)
      flaw e

  pub items_done : (marks1 marks2 marks3 : List Bool) (notes0 notes1 notes2 notes3 : Notes) (kinds : Kinds) →
      Blank notes0 → TableRan words marks0 marks1 notes0 notes1 (Items Car) 1 (Ok kinds.cars) →
      length marks1 ≡ length marks0
      → TableRan words marks1 marks2 notes1 notes2 (Items Flight) 2 (Ok kinds.flights) → length marks2 ≡ length marks0 →
      TableRan words marks2 marks3 notes2 notes3 (Items Room) 3 (Ok kinds.rooms) →
      ItemsRan words marks0 marks3 notes3 (Ok kinds)
  items_done marks1 marks2 marks3 notes0 notes1 notes2 notes3 kinds blank f size g size' h s q =
      let x = table_at words (length marks0) marks0 marks1 notes0 notes1 Car 1 (Ok kinds.cars) s refl f q in
      let y = table_at words (length marks0) marks1 marks2 notes1 notes2 Flight 2
      (Ok kinds.flights) x.0.1 size g x.1.1 in
      let z = table_at words (length marks0) marks2 marks3 notes2 notes3 Room 3 (Ok kinds.rooms) y.0.1 size' h y.1.1 in
      let xn = x.1.3 in let yn = y.1.3 in let zn = z.1.3 in
      record {
        a = x.0.0;
        b = y.0.0;
        c = z.0.0;
        s1 = x.0.1;
        s2 = y.0.1;
        s3 = z.0.1;
        is_a = x.1.0;
        is_b = y.1.0;
        is_c = z.1.0;
        are = z.1.1;
        items = zn.items ∙ ap (λ (w : List NotedItem). w ++ noted_of 2 z.0.0)
            (yn.items ∙ ap (λ (w : List NotedItem). w ++ noted_of 1 y.0.0)
            (xn.items ∙ ap (λ (w : List NotedItem). w ++ noted_of 0 x.0.0) blank.items));
        used = omega (arith, zn.used, yn.used, xn.used, blank.used);
        free = omega (arith, zn.free, yn.free, xn.free, blank.free);
        total = omega (arith, zn.total, yn.total, xn.total, blank.total);
        bookings = zn.bookings ∙ (yn.bookings ∙ (xn.bookings ∙ blank.bookings));
        billed = zn.billed ∙ (yn.billed ∙ (xn.billed ∙ blank.billed));
        cars = x.1.2;
        flights = y.1.2;
        rooms = z.1.2;
      }

-- the customers, after the items
pub counting_start : (notes : Notes) (left : ℕ) → InOrder notes.items.items → Uncounted notes → left ≤ 262144 →
    Counting notes left
counting_start notes left order h l = record {
  order = order;
  booked = λ i. omega (arith, booked_none notes.items.items i h.booked);
  bookings = omega (arith, h.bookings);
  billed = omega (arith, h.billed);
}

pub customers_ran : (words : List ℕ) (marks marks' : List Bool) (notes notes' : Notes) (result : Result ℕ Fault) →
    Uncounted notes → TableRan words marks marks' notes notes' Customers 4 result →
    CustomersRan words marks marks' notes notes' result
customers_ran words marks marks' notes notes' (Ok customers) un f tables ix s a =
    let x = f tables ix s a in
    let n = x.1.3 in
    record {
      rows = x.0.0;
      s' = x.0.1;
      is = x.1.0;
      are = x.1.1;
      many = x.1.2;
      items = n.items;
      booked = λ i l. omega (arith, n.booked i l, booked_none notes.items.items i un.booked);
      bookings = omega (arith, n.bookings, un.bookings);
      billed = omega (arith, n.billed, un.billed);
    }
customers_ran words marks marks' notes notes' (Err Memory) un f tables ix s a = tt
customers_ran words marks marks' notes notes' (Err (Found flaw)) un f tables ix s a = f tables ix s a
