-- The tests of an item and of a customer.
use Rattle.std.proofs.Common.{◌≡◌, ℕ, ◌+◌, ◌<◌, true, [], length, refl, sym, subst, arith}
use Rattle.std.specs.Prelude.{Ok}
use Rattle.std.proofs.lemmas.Bool.Decides.{nat_tests}
use Rattle.tx_alloc.specs.Pool.{with_at}
use Rattle.tx_alloc.proofs.Sums.{with_here, with_else}
use Rattle.tx_alloc.specs.Rows.{Rows, times}
use Rattle.vac_bookings.specs.Bookings.{IsList}
use Rattle.vac_audit.specs.Walk.{Seen, is_item, look_at_item, look_at_customer, walk_bookings}
use Rattle.vac_audit.proofs.Sound.{Each, IsItemAt, IsBookingRow}
use Rattle.vac_audit.specs.declared.Flaw.TheVariants.{Counts}
use Rattle.vac_audit.proofs.Steps.{both_ok, test_ok, test_with, then_with}
use Rattle.vac_audit.proofs.Reaching.{Reaches, none_reached, list_walked, list_found}
use Rattle.vac_audit.proofs.Trees.{Own, Looked, LookFound, Apart}

-- items have no lists
abbrev pub bare : Own
bare lists q = []

abbrev pub all_lists : Own
all_lists lists q = lists q

abbrev pub GoodItem : (ℕ → ℕ) → ℕ → Rows → Type 0
GoodItem m p rs = IsItemAt m p

abbrev pub GoodCustomer : (ℕ → ℕ) → ℕ → (ℕ → Rows) → ℕ → ℕ → Rows → Type 0
GoodCustomer m n tables levels p rs = IsList m n (m (p + 4)) rs × Each (IsBookingRow m tables) rs × (length rs < levels)

item_at : (m : ℕ → ℕ) (p : ℕ) → is_item m p ≡ true → IsItemAt m p
item_at m p e = record {
  some = grind (arith, nat_tests);
  few = grind (arith, nat_tests);
  sum = grind (arith, nat_tests);
  price = grind (arith, nat_tests);
}

item_test : (m : ℕ → ℕ) (p : ℕ) → IsItemAt m p → is_item m p ≡ true
item_test m p h = let a = h.some in let b = h.few in let c = h.sum in let d = h.price in grind (arith, nat_tests)

pub item_looked : (m : ℕ → ℕ) (n p : ℕ) (s s' : Seen) → look_at_item m p s ≡ Ok s' → Looked n bare (GoodItem m) p s s'
item_looked m n p s s' e = test_ok _ (is_item m p) (Counts (p + 4)) _ s' e (λ t q.
    let r : s ≡ s' = cc in
    subst (λ (y : Seen). Looked n bare (GoodItem m) p s y) r
    (record { good = item_at m p t; reaches = none_reached n s.blocks; kept = λ q ne. refl }))

pub item_found : (m : ℕ → ℕ) (n p : ℕ) (s : Seen) → IsItemAt m p → LookFound n (look_at_item m) bare (λ q. []) p s
item_found m n p s h = record {
  s' = s;
  is = test_with (is_item m p) (Counts (p + 4)) _ _ (item_test m p h) refl;
  reaches = none_reached n s.blocks;
  list = refl;
  kept = λ q ne. refl;
}

-- the rows are the bookings of the customer in block p, whatever their number, and each is a sound
-- booking
abbrev pub GoodList : (ℕ → ℕ) → ℕ → (ℕ → Rows) → ℕ → Rows → Type 0
GoodList m n tables p rs = IsList m n (m (p + 4)) rs × Each (IsBookingRow m tables) rs

pub customer_looked : (m : ℕ → ℕ) (n : ℕ) (tables : ℕ → Rows) (levels p : ℕ) (s s' : Seen) →
    look_at_customer m n tables levels p s ≡ Ok s' → Looked n all_lists (GoodList m n tables) p s s'
customer_looked m n tables levels p s s' e = both_ok _ (walk_bookings m n tables levels (p + 4) 0 s.blocks) _ s' e
    (λ y f g.
    let r : record { blocks = y.1; lists = with_at s.lists p y.0 } ≡ s' = cc in
    let w = list_walked m n tables levels (p + 4) 0 s.blocks y f in
    subst (λ (z : Seen). Looked n all_lists (GoodList m n tables) p s z) r (record {
      good = subst (λ (rs : Rows). GoodList m n tables p rs) (sym (with_here s.lists p p y.0 refl))
          (record { linked = w.linked }, w.rows);
      reaches = subst (λ (rs : Rows). Reaches n s.blocks y.1 (λ x. times x rs) (length rs))
          (sym (with_here s.lists p p y.0 refl)) w.reaches;
      kept = λ q ne. with_else s.lists p q y.0 ne;
    }))

pub customer_found : (m : ℕ → ℕ) (n : ℕ) (tables : ℕ → Rows) (levels : ℕ) (L : ℕ → Rows) (p : ℕ) (s : Seen) →
    GoodCustomer m n tables levels p (L p) → Apart (λ x. times x (L p)) s.blocks
    → LookFound n (look_at_customer m n tables levels) all_lists L p s
customer_found m n tables levels L p s g d =
    let w = list_found m n tables levels (p + 4) 0 s.blocks (L p) g.0.linked g.1 g.2 d in
    record {
      s' = record { blocks = w.seen'; lists = with_at s.lists p (L p) };
      is = then_with (walk_bookings m n tables levels (p + 4) 0 s.blocks) _ (L p, w.seen') _ w.is refl;
      reaches = w.reaches;
      list = with_here s.lists p p (L p) refl;
      kept = λ q ne. with_else s.lists p q (L p) ne;
    }
