-- A memory that represents a state, and what has to be shown of another one.
use Rattle.std.proofs.Common.{◌≡◌, ◌≢◌, ◌⊎◌, inl, inr, ℕ, ◌+◌, ◌<◌, ◌≤◌, List, [], ◌∷◌, length, refl, sym, ap, ◌∙◌}
use Rattle.std.proofs.Common.{arith}
use Rattle.std.specs.FinMap.{entries}
use Rattle.tx_memory.specs.Seen.{same_or}
use Rattle.vac_model.specs.declared.items.Kind.{Kind}
use Rattle.vac_model.specs.declared.items.Kind.TheVariants.{Car, Flight, Room}
use Rattle.vac_model.specs.State.{State, ItemTable, Customers, kind_number, table_of, with_table}
use Rattle.tx_alloc.specs.Pool.{IsBlock, held, with_at}
use Rattle.tx_alloc.specs.Rows.{Rows, times}
use Rattle.tx_alloc.proofs.Sums.{with_else, sum_has, sum_two}
use Rattle.tx_alloc.proofs.Chains.{held_first}
use Rattle.tx_tree.proofs.TableFrame.{table_block}
use Rattle.vac_bookings.proofs.Frame.{list_block}
use Rattle.vac_records.specs.Heap.{Parts, used_in, count_in, IsHeap}
use Rattle.vac_records.specs.Represents.{items_in, customers_in, opened_bookings, Represents}
use Rattle.vac_records.proofs.Overs.{over_has, over_else}
use Rattle.vac_records.proofs.Insert.{pool_as}
use Rattle.vac_records.proofs.Frames.{items_frame, bookings_frame, customers_frame}

pub kind_small : (kind : Kind) → kind_number kind < 3
kind_small Car = omega arith
kind_small Flight = omega arith
kind_small Room = omega arith

-- the tables of a state in which one table is another
abbrev pub OneTable : State → Kind → ItemTable → Kind → Type 0
OneTable s kind t k =
    ((kind_number k ≡ kind_number kind) × (table_of (with_table s kind t) k ≡ t))
    ⊎ ((kind_number k ≢ kind_number kind) × (table_of (with_table s kind t) k ≡ table_of s k))

pub one_table : (s : State) (kind : Kind) (t : ItemTable) (k : Kind) → OneTable s kind t k
one_table s Car t Car = inl (refl, refl)
one_table s Car t Flight = inr (omega arith, refl)
one_table s Car t Room = inr (omega arith, refl)
one_table s Flight t Car = inr (omega arith, refl)
one_table s Flight t Flight = inl (refl, refl)
one_table s Flight t Room = inr (omega arith, refl)
one_table s Room t Car = inr (omega arith, refl)
one_table s Room t Flight = inr (omega arith, refl)
one_table s Room t Room = inl (refl, refl)

pub same_customers : (s : State) (kind : Kind) (t : ItemTable) → (with_table s kind t).customers ≡ s.customers
same_customers s Car t = refl
same_customers s Flight t = refl
same_customers s Room t = refl

pub same_capacity : (s : State) (kind : Kind) (t : ItemTable) → (with_table s kind t).capacity ≡ s.capacity
same_capacity s Car t = refl
same_capacity s Flight t = refl
same_capacity s Room t = refl

pub same_tables : (s : State) (cs : Customers) (k : Kind) → table_of (record s { customers = cs }) k ≡ table_of s k
same_tables s cs Car = refl
same_tables s cs Flight = refl
same_tables s cs Room = refl

-- which block of a structure a block in hand is not
module _ (m : ℕ → ℕ) (n : ℕ) (p : Parts) (h : IsHeap m n p) where
  pub in_table : (j x : ℕ) → j < 4 → 0 < times x (p.tables j) → IsBlock n x
  in_table j x l o = table_block m n (m (1 + j)) x (p.tables j) (h.tables j l) o

  pub in_list : (c x : ℕ) → 0 < times c (p.tables 3) → 0 < times x (p.lists c) → IsBlock n x
  in_list c x o o' = list_block m n (m (c + 4)) x (p.lists c) (h.lists c o) o'

  pub table_not_out : (j x b : ℕ) → j < 4 → 0 < times x (p.tables j) → 0 < held b p.out → x ≢ b
  table_not_out j x b l o o' q = absurd (omega (
    arith,
    h.pool.once x (in_table j x l o),
    o,
    sum_has 4 j (λ z. times x (p.tables z)) l,
    o',
    ap (λ (z : ℕ). held z p.out) q,
  ))

  pub list_not_out : (c x b : ℕ) → 0 < times c (p.tables 3) → 0 < times x (p.lists c) → 0 < held b p.out → x ≢ b
  list_not_out c x b o o' g q = absurd (omega (
    arith,
    h.pool.once x (in_list c x o o'),
    o',
    over_has (times x) c (p.tables 3) p.lists o,
    g,
    ap (λ (z : ℕ). held z p.out) q,
  ))

  pub tables_apart : (j k x b : ℕ) → j < 4 → k < 4 → j ≢ k → 0 < times x (p.tables j) → 0 < times b (p.tables k) → x ≢ b
  tables_apart j k x b l l' ne o o' q = absurd (omega (
    arith,
    h.pool.once x (in_table j x l o),
    o,
    o',
    sum_two 4 j k (λ z. times x (p.tables z)) l l' ne,
    ap (λ (z : ℕ). times z (p.tables k)) q,
  ))

  pub list_not_table : (c x j b : ℕ) → 0 < times c (p.tables 3) → 0 < times x (p.lists c) → j < 4 →
      0 < times b (p.tables j) → x ≢ b
  list_not_table c x j b o o' l g q = absurd (omega (
    arith,
    h.pool.once x (in_list c x o o'),
    o',
    over_has (times x) c (p.tables 3) p.lists o,
    g,
    sum_has 4 j (λ z. times x (p.tables z)) l,
    ap (λ (z : ℕ). times z (p.tables j)) q,
  ))

  pub table_once : (j x : ℕ) → j < 4 → times x (p.tables j) ≤ 1
  table_once j x l = elim (same_or (times x (p.tables j)) 0) [
    | inl z ↦ omega arith
    | inr nz ↦ omega (arith, h.pool.once x (in_table j x l (omega arith)), sum_has 4 j (λ z. times x (p.tables z)) l)
  ]

  -- the list of a block that is no customer does not count
  pub cleared : (b : ℕ) → times b (p.tables 3) ≡ 0 → IsHeap m n (record p { lists = with_at p.lists b [] })
  cleared b none = record {
    tables = h.tables;
    lists = λ c o.
        let ne : c ≢ b = λ q. absurd (omega (arith, o, none, ap (λ (z : ℕ). times z (p.tables 3)) q)) in
        let e = with_else p.lists b c [] ne in
        rw e (h.lists c o);
    pool = pool_as m m n p.free (used_in p) (used_in (record p { lists = with_at p.lists b [] })) (count_in p)
        (count_in (record p { lists = with_at p.lists b [] }))
        (λ i l. refl) (λ i x l o. refl)
        (λ x bx. omega (arith, over_else (times x) b [] (p.tables 3) p.lists none))
        (omega (arith, over_else (λ (z : Rows). length z) b [] (p.tables 3) p.lists none)) h.pool;
  }

pub out_first : (p : Parts) (b : ℕ) (os : List ℕ) → p.out ≡ b ∷ os → 0 < held b p.out
out_first p b os is = omega (arith, held_first b os, ap (held b) is)

-- the same state
unfoldable pub keeps : (m m' : ℕ → ℕ) (n : ℕ) (out out' : List ℕ) (s : State) (h : Represents m n out s) (p : Parts) →
    IsHeap m' n p → p.out ≡ out' →
    ((j : ℕ) → j < 3 → items_in m' (p.tables j) ≡ items_in m (h.parts.tables j)) →
    customers_in m' p.lists (p.tables 3) ≡ customers_in m h.parts.lists (h.parts.tables 3) → Represents m' n out' s
keeps m m' n out out' s h p heap is items customers = record {
  size = h.size;
  parts = p;
  heap = heap;
  held = is;
  items = λ kind. h.items kind ∙ sym (items (kind_number kind) (kind_small kind));
  customers = h.customers ∙ sym customers;
}

-- another table of one kind
unfoldable pub shifts_table : (m m' : ℕ → ℕ) (n : ℕ) (out out' : List ℕ) (s : State) (h : Represents m n out s)
    (kind : Kind) (t : ItemTable) (p : Parts) → IsHeap m' n p → p.out ≡ out' →
    entries t ≡ items_in m' (p.tables (kind_number kind)) →
    ((j : ℕ) → j < 3 → j ≢ kind_number kind → items_in m' (p.tables j) ≡ items_in m (h.parts.tables j)) →
    customers_in m' p.lists (p.tables 3) ≡ customers_in m h.parts.lists (h.parts.tables 3) →
    Represents m' n out' (with_table s kind t)
shifts_table m m' n out out' s h kind t p heap is new items customers = record {
  size = let e = same_capacity s kind t in rw e h.size;
  parts = p;
  heap = heap;
  held = is;
  items = λ k. elim (one_table s kind t k) [
    | inl e ↦ ap (λ (z : ItemTable). entries z) e.1 ∙ (new ∙ ap (λ (j : ℕ). items_in m' (p.tables j)) (sym e.0))
    | inr e ↦ ap (λ (z : ItemTable). entries z) e.1 ∙ (h.items k ∙ sym (items (kind_number k) (kind_small k) e.0))
  ];
  customers = ap (λ (z : Customers). opened_bookings (entries z)) (same_customers s kind t) ∙
      (h.customers ∙ sym customers);
}

-- other customers
unfoldable pub shifts_customers : (m m' : ℕ → ℕ) (n : ℕ) (out out' : List ℕ) (s : State) (h : Represents m n out s)
    (cs : Customers) (p : Parts) → IsHeap m' n p → p.out ≡ out' →
    ((j : ℕ) → j < 3 → items_in m' (p.tables j) ≡ items_in m (h.parts.tables j)) →
    opened_bookings (entries cs) ≡ customers_in m' p.lists (p.tables 3) →
    Represents m' n out' (record s { customers = cs })
shifts_customers m m' n out out' s h cs p heap is items new = record {
  size = h.size;
  parts = p;
  heap = heap;
  held = is;
  items = λ k. ap (λ (z : ItemTable). entries z) (same_tables s cs k) ∙
      (h.items k ∙ sym (items (kind_number k) (kind_small k)));
  customers = new;
}

-- the words of items and bookings are as before
pub all_same : (m m' : ℕ → ℕ) (n : ℕ) (p : Parts) → IsHeap m n p →
    ((x k : ℕ) → IsBlock n x → 0 < used_in p x → held x p.out ≡ 0 → k < 8 → m' (x + k) ≡ m (x + k)) →
    ((j : ℕ) → j < 3 → items_in m' (p.tables j) ≡ items_in m (p.tables j)) ×
    (customers_in m' p.lists (p.tables 3) ≡ customers_in m p.lists (p.tables 3))
all_same m m' n p h same = (
  λ j l. items_frame m m' (p.tables j) (λ a k o g less.
      let ba = in_table m n p h j a (omega arith) o in
      let once = h.pool.once a ba in
      let here = sum_has 4 j (λ z. times a (p.tables z)) (omega arith) in
      same a k ba (omega (arith, o, here)) (omega (arith, once, o, here)) less),
  customers_frame m m' p.lists p.lists (p.tables 3) (λ c o. bookings_frame m m' (p.lists c) (λ a k o' ne less.
      let ba = in_list m n p h c a o o' in
      let once = h.pool.once a ba in
      let here = over_has (times a) c (p.tables 3) p.lists o in
      same a k ba (omega (arith, o', here)) (omega (arith, once, o', here)) less)),
)
