-- The notes of the walks of tables.
use Rattle.std.proofs.Common.{◌≡◌, ℕ, ◌+◌, ◌<◌, ◌≤◌, Bool, List, [], ◌∷◌, ◌++◌, length, zero, suc, refl, sym, ap, ◌∙◌}
use Rattle.std.proofs.Common.{subst, arith}
use Rattle.std.specs.Prelude.{Ok, Err, slice_index, sum_by}
use Rattle.std.proofs.lemmas.List.{append_assoc}
use Rattle.std.proofs.lemmas.List.Sums.{sum_by-append}
use Rattle.tx_alloc.specs.Pool.{held, with_at}
use Rattle.tx_alloc.specs.Rows.{Rows, times}
use Rattle.tx_alloc.proofs.Sums.{with_here, with_else}
use Rattle.vac_bookings.specs.Bookings.{place_code}
use Rattle.vac_model.specs.declared.items.Kind.{Kind}
use Rattle.vac_model.specs.State.{kind_number}
use Rattle.vac_records.specs.Heap.{over}
use Rattle.vac_audit.specs.Walk.{walk_bookings, is_in_order, is_booking, units_in}
use Rattle.vac_audit.specs.Noted.{booked_in, codes_in, noted_of}
use Rattle.vac_audit.specs.Marks.{BookingsRan}
use Rattle.vac_audit.specs.TreeRan.{ItemsNoted, CustomersNoted, Noted, LookRan}
use Rattle.vac_audit.specs.declared.Flaw.TheVariants.{Shared, Order, Bookings}
use Rattle.vac_audit.specs.declared.notes.NotedItem.{NotedItem}
use Rattle.vac_audit.specs.declared.notes.Notes.{Notes}
use Rattle.vac_audit.specs.declared.tree.Table.{Table}
use Rattle.vac_audit.specs.declared.tree.Table.TheVariants.{Items, Customers}
use Rattle.vac_audit.proofs.Steps.{both_ok, test_ok, enter_ok, then_with}
use Rattle.vac_audit.proofs.Booked.{same_items, then_items}
use Rattle.vac_audit.proofs.Noted.{same_codes, same_length, noted_append}
use Rattle.vac_audit.proofs.Over.{over_append, over_as}

-- a walk of bookings keeps all reached blocks
pub list_grows : (m : ℕ → ℕ) (n : ℕ) (tables : ℕ → Rows) (levels a lo : ℕ) (seen : List ℕ) (x : Rows × List ℕ) (q : ℕ) →
    walk_bookings m n tables levels a lo seen ≡ Ok x → held q seen ≤ held q x.1
list_grows m n tables zero a lo seen x q e = absurd (let w : Err (Shared a) ≡ Ok x = e in cc)
list_grows m n tables (suc levels) a lo seen x q e = enter_ok _ m n a seen _ _ x e
    (λ z w. let r : ([], seen) ≡ x = cc in subst (λ (y : Rows × List ℕ). held q seen ≤ held q y.1) r (omega arith))
    (λ p h w. test_ok _ (is_in_order m p lo) (Order p) _ x w
    (λ t w1. test_ok _ (is_booking m tables p) (Bookings p) _ x w1 (λ u w2.
    both_ok _ (walk_bookings m n tables levels (p + 3) (place_code m p + 1) (p ∷ seen)) _ x w2 (λ y f g.
    let r : ((place_code m p, p) ∷ y.0, y.1) ≡ x = cc in
    subst (λ (z : Rows × List ℕ). held q seen ≤ held q z.1) r
    (omega (arith, list_grows m n tables levels (p + 3) (place_code m p + 1) (p ∷ seen) y q f))))))

over_one : (f : Rows → ℕ) (k p : ℕ) (lists : ℕ → Rows) (rs : Rows) → over f ((k, p) ∷ []) (with_at lists p rs) ≡ f rs
over_one f k p lists rs = omega (arith, ap f (with_here lists p p rs refl))

pub customer_looked : (words : List ℕ) (marks marks' : List Bool) (notes notes' : Notes) (table : Table) (p : ℕ) →
    table ≡ Customers → BookingsRan words marks marks' notes notes' (p + 4) (Ok tt) →
    LookRan words marks marks' notes notes' table p (Ok tt)
customer_looked words marks marks' notes notes' table p is f =
    subst (λ (z : Table). LookRan words marks marks' notes notes' z p (Ok tt)) (sym is) (λ tables ix s a.
    let g = f tables ix s.blocks a in
    let x = g.0 in
    let b = g.1.2 in
    record {
      s' = record { blocks = x.1; lists = with_at s.lists p x.0 };
      is = then_with (walk_bookings (slice_index words) (length words) tables (suc (length marks)) (p + 4) 0 s.blocks) _
          x _ g.1.0 refl;
      are = g.1.1;
      noted = record {
        items = b.items;
        booked = λ i l. omega (
          arith,
          b.booked i l,
          over_one
              (units_in (slice_index words) (slice_index (codes_in notes.items.items) i))
              (slice_index words p) p s.lists x.0,
        );
        bookings = omega (
          arith,
          b.bookings,
          over_one (sum_by (λ (r : ℕ × ℕ). slice_index words (r.1 + 4)))
              (slice_index words p) p s.lists x.0,
        );
        billed = omega (
          arith,
          b.billed,
          over_one (sum_by (λ (r : ℕ × ℕ). slice_index words (r.1 + 2)))
              (slice_index words p) p s.lists x.0,
        );
      };
      kept = λ q ne. with_else s.lists p q x.0 ne;
      more = λ q. list_grows (slice_index words) (length words) tables (suc (length marks))
          (p + 4) 0 s.blocks x q g.1.0;
    })

-- one more node
module _ (m : ℕ → ℕ) (a b c : Notes) (rs : Rows) (k p : ℕ) (lists lists' : ℕ → Rows) where
  items_more : (kind : Kind) → ItemsNoted m kind a b rs → ItemsNoted m kind b c ((k, p) ∷ []) →
      ItemsNoted m kind a c (rs ++ ((k, p) ∷ []))
  items_more kind h w = record {
    items = w.items ∙ (ap (λ (z : List NotedItem). z ++ noted_of (kind_number kind) ((k, p) ∷ [])) h.items ∙
        (append_assoc a.items.items (noted_of (kind_number kind) rs) (noted_of (kind_number kind) ((k, p) ∷ [])) ∙
        ap (λ (z : List NotedItem). a.items.items ++ z) (sym (noted_append (kind_number kind) rs ((k, p) ∷ [])))));
    used = omega (arith, w.used, h.used, sum_by-append (λ (r : ℕ × ℕ). m (r.1 + 4)) rs ((k, p) ∷ []));
    free = omega (arith, w.free, h.free, sum_by-append (λ (r : ℕ × ℕ). m (r.1 + 5)) rs ((k, p) ∷ []));
    total = omega (arith, w.total, h.total, sum_by-append (λ (r : ℕ × ℕ). m (r.1 + 6)) rs ((k, p) ∷ []));
    bookings = w.bookings ∙ h.bookings;
    billed = w.billed ∙ h.billed;
  }

  module _ (same : (q : ℕ) → 0 < times q rs → lists' q ≡ lists q) where
    sum_more : (f : Rows → ℕ) → over f (rs ++ ((k, p) ∷ [])) lists' ≡ over f rs lists + over f ((k, p) ∷ []) lists'
    sum_more f = omega (arith, over_append f rs ((k, p) ∷ []) lists', over_as f rs lists lists' same)

    customers_more : CustomersNoted m a b rs lists → CustomersNoted m b c ((k, p) ∷ []) lists' →
        CustomersNoted m a c (rs ++ ((k, p) ∷ [])) lists'
    customers_more h w = record {
      items = then_items a b c h.items w.items;
      booked = λ i l.
          let u = w.booked i (omega (arith, l, same_length a b h.items)) in
          let v = subst (λ (z : List ℕ). slice_index (booked_in c.items.items) i ≡ slice_index
          (booked_in b.items.items) i + over (units_in m (slice_index z i)) ((k, p) ∷ []) lists')
          (same_codes a b h.items) u in
          omega (arith, v, h.booked i l, sum_more (units_in m (slice_index (codes_in a.items.items) i)));
      bookings = omega (arith, w.bookings, h.bookings, sum_more (sum_by (λ (r : ℕ × ℕ). m (r.1 + 4))));
      billed = omega (arith, w.billed, h.billed, sum_more (sum_by (λ (r : ℕ × ℕ). m (r.1 + 2))));
    }

    pub noted_more : (table : Table) → Noted table m a b rs lists → Noted table m b c ((k, p) ∷ []) lists' →
        Noted table m a c (rs ++ ((k, p) ∷ [])) lists'
    noted_more (Items kind) h w = items_more kind h w
    noted_more Customers h w = customers_more h w

-- empty notes
list_none : (xs : List NotedItem) → xs ≡ xs ++ []
list_none [] = refl
list_none (x ∷ xs) = ap (λ (z : List NotedItem). x ∷ z) (list_none xs)

pub noted_none : (table : Table) (m : ℕ → ℕ) (a : Notes) (lists : ℕ → Rows) → Noted table m a a [] lists
noted_none (Items kind) m a lists = record {
  items = list_none a.items.items;
  used = omega arith;
  free = omega arith;
  total = omega arith;
  bookings = refl;
  billed = refl;
}
noted_none Customers m a lists = record {
  items = same_items a;
  booked = λ i l. omega arith;
  bookings = omega arith;
  billed = omega arith;
}
