-- The list of a customer's bookings after a booking was made or grew.
use Rattle.std.proofs.Common.{◌≡◌, ◌≢◌, ◌⊎◌, inl, inr, ℕ, ◌+◌, ◌<◌, ◌≤◌, List, [], sym, subst}
use Rattle.std.proofs.Common.{arith}
use Rattle.std.proofs.lemmas.Bool.{cases_lt}
use Rattle.vac_model.specs.declared.items.Kind.{Kind}
use Rattle.vac_model.specs.State.{State, kind_number}
use Rattle.tx_alloc.specs.Pool.{IsBlock}
use Rattle.tx_alloc.specs.Rows.{Rows, times}
use Rattle.vac_bookings.specs.Bookings.{IsList}
use Rattle.vac_bookings.proofs.Frame.{list_frame}
use Rattle.vac_records.specs.Represents.{Represents}
use Rattle.vac_records.specs.Laws.{Stays, IsItemAt}
use Rattle.vac_records.proofs.Keyed.{row_at, row_times}
use Rattle.vac_records.proofs.Links.{list_one, list_kept, booked_links}
use Rattle.vac_records.proofs.Single.{one_shape}
use Rattle.vac_records.proofs.Shifts.{kind_small, in_table, in_list, tables_apart, list_not_table}

-- words of an item are no words of a customer's list
pub list_of_item : (m m' : ℕ → ℕ) (n : ℕ) (out : List ℕ) (s : State) (h : Represents m n out s) (kind : Kind)
    (id item c : ℕ) → IsItemAt h kind id item → ((x : ℕ) → (x < item + 4) ⊎ (item + 8 ≤ x) → m' x ≡ m x) →
    0 < times c (h.parts.tables 3) → IsList m' n (m' (c + 4)) (h.parts.lists c)
list_of_item m m' n out s h kind id item c at w there =
    let p = h.parts in
    let i = kind_number kind in
    let l = kind_small kind in
    let l4 : i < 4 = omega (arith, l) in
    let ti = row_times id item (p.tables i) (row_at id item (p.tables i) at.at at.some) in
    let bi = in_table m n p h.heap i item l4 ti in
    let bc = in_table m n p h.heap 3 c (omega arith) there in
    let far : (x k : ℕ) → IsBlock n x → x ≢ item → k < 8 → m' (x + k) ≡ m (x + k) = λ x k bx ne less.
    w (x + k) (elim (cases_lt x item) [
      | inl below ↦ inl (omega (arith, bx.1.1, bi.1.1))
      | inr above ↦ inr (omega (arith, bx.1.1, bi.1.1))
    ]) in
    let nc = tables_apart m n p h.heap 3 i c item (omega arith) l4 (omega (arith, l)) there ti in
    let head : m' (c + 4) ≡ m (c + 4) = far c 4 bc nc (omega arith) in
    let kept : IsList m' n (m (c + 4)) (p.lists c) = list_frame m m' n (m (c + 4)) (p.lists c) (h.heap.lists c there)
    (λ a o k less. far a k (in_list m n p h.heap c a there o) (list_not_table m n p h.heap c a i item there o l4 ti)
    (omega (arith, less))) in
    subst (λ (z : ℕ). IsList m' n z (p.lists c)) (sym head) kept

-- units and sum of a booking are no words that make a list
pub list_of_booking : (m m' : ℕ → ℕ) (n : ℕ) (out : List ℕ) (s : State) (h : Represents m n out s) (c b : ℕ) →
    0 < times b (h.parts.lists c) → ((x : ℕ) → x ≢ b + 2 → x ≢ b + 4 → m' x ≡ m x) →
    0 < times c (h.parts.tables 3) → IsList m' n (m' (c + 4)) (h.parts.lists c)
list_of_booking m m' n out s h c b tb w there =
    let p = h.parts in
    let bb = in_list m n p h.heap c b there tb in
    let bc = in_table m n p h.heap 3 c (omega arith) there in
    let nc : b ≢ c = list_not_table m n p h.heap c b 3 c there tb (omega arith) there in
    let head : m' (c + 4) ≡ m (c + 4) = w (c + 4) (omega (arith, bb.1.1, bc.1.1))
    (λ q. nc (omega (arith, q))) in
    let kept : IsList m' n (m (c + 4)) (p.lists c) = list_kept m m' n (m (c + 4)) (p.lists c) (h.heap.lists c there)
    (λ a o. booked_links m m' n b a bb (in_list m n p h.heap c a there o) w) in
    subst (λ (z : ℕ). IsList m' n z (p.lists c)) (sym head) kept

-- a customer's list is the one that the memory has
pub list_same : (m : ℕ → ℕ) (n : ℕ) (out : List ℕ) (s : State) (h : Represents m n out s) (c : ℕ) (rows : Rows) →
    0 < times c (h.parts.tables 3) → IsList m n (m (c + 4)) rows → h.parts.lists c ≡ rows
list_same m n out s h c rows there l = list_one m n (m (c + 4)) (h.parts.lists c) rows (h.heap.lists c there) l

-- the customers are those of the memory before the change
pub customer_still : (m m' : ℕ → ℕ) (n : ℕ) (out out' : List ℕ) (s s' : State) (h : Represents m n out s) (c : ℕ) →
    (g : Stays h m' out' s') → 0 < times c (h.parts.tables 3) → 0 < times c (g.after.parts.tables 3)
customer_still m m' n out out' s s' h c g there =
    subst (λ (z : Rows). 0 < times c z) (sym (g.tables 3 (omega arith))) there

-- and so is that of each state that the same memory represents
pub list_after : (m : ℕ → ℕ) (n : ℕ) (s s' : State) (a : Represents m n [] s) (h : Represents m n [] s') (c : ℕ)
    (rows : Rows) → 0 < times c (a.parts.tables 3) → IsList m n (m (c + 4)) rows → h.parts.lists c ≡ rows
list_after m n s s' a h c rows there l =
    list_same m n [] s' h c rows
    (subst (λ (z : Rows). 0 < times c z) (sym (one_shape m n [] [] s s' a h 3 (omega arith))) there) l
