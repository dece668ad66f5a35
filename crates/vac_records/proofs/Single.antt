-- A memory represents at most one state, by its words alone, and the state's size is counted by its
-- blocks.
use Rattle.std.proofs.Common.{◌≡◌, ℕ, ◌+◌, ◌<◌, ◌≤◌, List, [], ◌∷◌, length, sum_by, sym, ap, ◌∙◌, subst, arith}
use Rattle.std.specs.FinMap.{entries, same_entries_map, len, len-entries, values}
use Rattle.vac_records.specs.Items.{item_in}
use Rattle.vac_model.specs.declared.items.Kind.{Kind}
use Rattle.vac_model.specs.declared.items.Kind.TheVariants.{Car, Flight, Room}
use Rattle.vac_model.specs.State.{State, Bookings, kind_number, table_of, size}
use Rattle.tx_alloc.specs.Pool.{sum_below}
use Rattle.tx_alloc.specs.Rows.{Rows, times}
use Rattle.tx_alloc.proofs.Moves.{pool_within}
use Rattle.tx_alloc.proofs.Sums.{sum_none}
use Rattle.tx_tree.proofs.TableFrame.{table_frame}
use Rattle.vac_records.proofs.TableRows.{table_one}
use Rattle.vac_bookings.proofs.Frame.{list_frame}
use Rattle.vac_records.specs.Heap.{Parts, over, used_in, count_in, IsHeap}
use Rattle.vac_records.specs.Represents.{items_in, bookings_in, customers_in, Represents}
use Rattle.vac_records.specs.Laws.{OneState, OneShape, SameWords, NoneLeft, SomeLeft}
use Rattle.vac_records.proofs.Links.{list_one}
use Rattle.vac_records.proofs.Frames.{items_frame, bookings_frame, customers_frame, lengths, lengths_opened}
use Rattle.vac_records.proofs.Frames.{lengths_customers, length_same, opened_one}
use Rattle.vac_records.proofs.Shifts.{kind_small, in_table, in_list, keeps}

module _ (m : ℕ → ℕ) (n : ℕ) (out out' : List ℕ) (s s' : State) (h : Represents m n out s)
    (g : Represents m n out' s') where
  pub tables_one : (i : ℕ) → i < 4 → h.parts.tables i ≡ g.parts.tables i
  tables_one i l = table_one m n (m (1 + i)) (h.parts.tables i) (g.parts.tables i) (h.heap.tables i l)
      (g.heap.tables i l)

  table_same : (kind : Kind) → table_of s kind ≡ table_of s' kind
  table_same kind =
      let l = kind_small kind in
      same_entries_map (table_of s kind) (table_of s' kind)
      (h.items kind ∙ (ap (items_in m) (tables_one (kind_number kind) (omega (arith, l))) ∙ sym (g.items kind)))

  customers_same : s.customers ≡ s'.customers
  customers_same =
      let rows = tables_one 3 (omega arith) in
      let lists : customers_in m g.parts.lists (h.parts.tables 3) ≡ customers_in m h.parts.lists (h.parts.tables 3) =
      customers_frame m m h.parts.lists g.parts.lists (h.parts.tables 3) (λ c o.
      let o' : 0 < times c (g.parts.tables 3) = subst (λ (z : Rows). 0 < times c z) rows o in
      ap (bookings_in m) (sym (list_one m n (m (c + 4)) (h.parts.lists c) (g.parts.lists c) (h.heap.lists c o)
      (g.heap.lists c o')))) in
      same_entries_map s.customers s'.customers (opened_one (entries s.customers) (entries s'.customers)
      (h.customers ∙ (sym lists ∙ (ap (customers_in m g.parts.lists) rows ∙ sym g.customers))))

  pub same_state : s ≡ s'
  same_state =
      let capacity : s.capacity ≡ s'.capacity = (let a = h.size in let b = g.size in omega arith) in
      let cars = table_same Car in
      let flights = table_same Flight in
      let rooms = table_same Room in
      λ i. record {
        capacity = capacity i;
        cars = cars i;
        flights = flights i;
        rooms = rooms i;
        customers = customers_same i;
      }

pub one_shape : OneShape
one_shape m n out out' s s' h g i l = sym (tables_one m n out out' s s' h g i l)

pub one_state : OneState
one_state = same_state

pub heap_within : (m m' : ℕ → ℕ) (n : ℕ) (p : Parts) → 16 ≤ n → IsHeap m n p → ((x : ℕ) → x < n → m' x ≡ m x) →
    IsHeap m' n p
heap_within m m' n p l h same = record {
  tables = λ i k. rw (same (1 + i) (omega arith)) (table_frame m m' n (m (1 + i)) (p.tables i) (h.tables i k)
      (λ x o j less. let bx = in_table m n p h i x k o in same (x + j) (omega (arith, bx.1.0))));
  lists = λ c o.
      let bc = in_table m n p h 3 c (omega arith) o in
      rw (same (c + 4) (omega (arith, bc.1.0))) (list_frame m m' n (m (c + 4)) (p.lists c) (h.lists c o)
      (λ x o' j less. let bx = in_list m n p h c x o o' in same (x + j) (omega (arith, bx.1.0))));
  pool = pool_within m m' n p.free (used_in p) (count_in p) same h.pool;
}

pub same_words : SameWords
same_words m m' n out s h same =
    let p = h.parts in
    keeps m m' n out out s h p (heap_within m m' n p (omega (arith, h.size)) h.heap same) h.held
    (λ j l. items_frame m m' (p.tables j) (λ a k o low less. let ba = in_table m n p h.heap j a (omega arith) o in
    same (a + k) (omega (arith, ba.1.0))))
    (customers_frame m m' p.lists p.lists (p.tables 3) (λ c o. bookings_frame m m' (p.lists c)
    (λ a k o' nk less. let ba = in_list m n p h.heap c a o o' in same (a + k) (omega (arith, ba.1.0)))))

-- the entries of a state are its blocks
module _ (m : ℕ → ℕ) (n : ℕ) (out : List ℕ) (s : State) (h : Represents m n out s) where
  table_size : (kind : Kind) → len (table_of s kind) ≡ length (h.parts.tables (kind_number kind))
  table_size kind = len-entries (table_of s kind) ∙ (ap length (h.items kind) ∙
      length_same (λ (r : ℕ × ℕ). (r.0, item_in m r.1)) (h.parts.tables (kind_number kind)))

  customers_size : len s.customers ≡ length (h.parts.tables 3)
  customers_size =
      len-entries s.customers ∙ (sym (length_same (λ (c : ℕ × Bookings). (c.0, entries c.1)) (entries s.customers))
      ∙ (ap length h.customers ∙ length_same (λ (r : ℕ × ℕ). (r.0, bookings_in m (h.parts.lists r.1)))
      (h.parts.tables 3)))

  bookings_size : sum_by (λ (b : Bookings). len b) (values s.customers) ≡ over (λ (z : Rows). length z)
      (h.parts.tables 3) h.parts.lists
  bookings_size =
      sym (lengths_opened (entries s.customers)) ∙ (ap lengths h.customers ∙ lengths_customers m h.parts.lists
      (h.parts.tables 3))

  pub size_is : size s + length out ≡ count_in h.parts
  size_is =
      let cars = table_size Car in
      let flights = table_size Flight in
      let rooms = table_size Room in
      let customers = customers_size in
      let bookings = bookings_size in
      let hand = ap (λ (z : List ℕ). length z) h.held in
      omega arith

  pub counted : sum_below 8 (λ i. length (h.parts.free i)) + (size s + length out) ≡ s.capacity
  counted = let a = h.heap.pool.all in let b = h.size in let c = size_is in omega arith

pub none_left : NoneLeft
none_left m n s h none =
    let c = counted m n [] s h in
    let z = sum_none 8 (λ i. length (h.parts.free i)) (λ i l. ap (λ (z : List ℕ). length z) (none i l)) in
    omega arith

pub some_left : SomeLeft
some_left m n b s h = let c = counted m n (b ∷ []) s h in omega arith
