-- The entries of the one state that an image represents, and the effect of each change of a memory
-- on that state.
use Rattle.std.specs.Prelude.{◌≡◌, ◌≢◌, ◌⊎◌, ℕ, ◌+◌, ◌^◌, ◌<◌, ◌≤◌, List, [], ◌∷◌, Some, None, length, slice_index}
use Rattle.std.specs.FinMap.{empty, get, insert, remove, entries}
use Rattle.vac_model.specs.declared.items.Kind.{Kind}
use Rattle.vac_model.specs.State.{State, Bookings, Place, kind_number, empty_state, item_of, with_item, without_item, bookings_of, with_bookings, without_customer, size, bill_of}
use Rattle.tx_alloc.specs.Pool.{IsBlock, IsTaking, IsGiving, IsUsed, IsPool, IsEmptyHeap, fresh_lists}
use Rattle.tx_alloc.specs.Drawing.{IsDrawing}
use Rattle.tx_alloc.specs.Spread.{IsSpreadHeap, spread_lists}
use Rattle.tx_alloc.specs.declared.place.TheConstants.{MOST_BLOCKS}
use Rattle.tx_alloc.specs.Rows.{Rows, put_row, cut_row, block_at, Relinks}
use Rattle.tx_tree.specs.Table.{IsTable, Table}
use Rattle.vac_bookings.specs.Bookings.{IsList}
use Rattle.vac_bookings.specs.Lists.{IsListAt}
use Rattle.vac_records.specs.Items.{item_in}
use Rattle.vac_records.specs.Bookings.{place_key, place_in, booking_in}
use Rattle.vac_records.specs.Customers.{head_of, sum_in}
use Rattle.vac_records.specs.Heap.{used_in, count_in}
use Rattle.vac_records.specs.Represents.{Represents, bookings_in}

-- a block came into the i-th table under this key
pub record TableGrown (m m' : ℕ → ℕ) (n i : ℕ) (rows : Rows) (key b : ℕ) : Type 0 where
  pub table : IsTable m' n (m' (1 + i)) (put_row rows key b)
  pub relinks : Relinks m m' 1 (1 + i) (put_row rows key b)

-- the row of this key left the i-th table
pub record TableCut (m m' : ℕ → ℕ) (n i : ℕ) (rows : Rows) (key : ℕ) : Type 0 where
  pub table : IsTable m' n (m' (1 + i)) (cut_row rows key)
  pub relinks : Relinks m m' 1 (1 + i) rows

-- a block came into the list of the customer in block c under this key
pub record ListGrown (m m' : ℕ → ℕ) (n c : ℕ) (rows : Rows) (key b : ℕ) : Type 0 where
  pub list : IsList m' n (m' (c + 4)) (put_row rows key b)
  pub relinks : Relinks m m' 3 (c + 4) (put_row rows key b)

-- the row of this key left the list of the customer in block c
pub record ListCut (m m' : ℕ → ℕ) (n c : ℕ) (rows : Rows) (key : ℕ) : Type 0 where
  pub list : IsList m' n (m' (c + 4)) (cut_row rows key)
  pub relinks : Relinks m m' 3 (c + 4) rows

-- b is the block of the item of a kind and an id
pub record IsItemAt {m : ℕ → ℕ} {n : ℕ} {out : List ℕ} {s : State} (h : Represents m n out s)
    (kind : Kind) (id b : ℕ) : Type 0 where
  pub at : block_at (h.parts.tables (kind_number kind)) id ≡ b
  pub some : b ≢ 0

-- c is the block of the customer with an id, and the customer has these bookings
pub record IsCustomerAt {m : ℕ → ℕ} {n : ℕ} {out : List ℕ} {s : State} (h : Represents m n out s)
    (id c : ℕ) (bookings : Bookings) : Type 0 where
  pub at : block_at (h.parts.tables 3) id ≡ c
  pub some : c ≢ 0
  pub there : bookings_of s id ≡ Some bookings

-- b is the block of the booking of an item among those of the customer in block c
pub record IsBookingAt {m : ℕ → ℕ} {n : ℕ} {out : List ℕ} {s : State} (h : Represents m n out s)
    (c : ℕ) (place : Place) (b : ℕ) : Type 0 where
  pub small : place.1 < 2 ^ 32
  pub at : block_at (h.parts.lists c) (place_key place) ≡ b
  pub some : b ≢ 0

-- the state has a customer with this id, and the entries of the customer's bookings are those of
-- these rows
pub record HasBookings (m : ℕ → ℕ) (rows : Rows) (s : State) (id : ℕ) : Type 0 where
  pub bookings : Bookings
  pub there : bookings_of s id ≡ Some bookings
  pub entries_are : entries bookings ≡ bookings_in m rows

-- the memory m' represents the state s', with the tables of h
pub record Stays {m : ℕ → ℕ} {n : ℕ} {out : List ℕ} {s : State} (h : Represents m n out s)
    (m' : ℕ → ℕ) (out' : List ℕ) (s' : State) : Type 0 where
  pub after : Represents m' n out' s'
  pub tables : (i : ℕ) → i < 4 → after.parts.tables i ≡ h.parts.tables i

-- the memory m' represents the state s', with the tables of h, except that the j-th table has
-- these rows
pub record StaysBut {m : ℕ → ℕ} {n : ℕ} {out : List ℕ} {s : State} (h : Represents m n out s)
    (j : ℕ) (rows : Rows) (m' : ℕ → ℕ) (out' : List ℕ) (s' : State) : Type 0 where
  pub after : Represents m' n out' s'
  pub table : after.parts.tables j ≡ rows
  pub tables : (i : ℕ) → i < 4 → i ≢ j → after.parts.tables i ≡ h.parts.tables i

-- a memory represents at most one state
abbrev pub OneState : Type 0
OneState =
    (m : ℕ → ℕ) (n : ℕ) (out out' : List ℕ) (s s' : State) →
    Represents m n out s → Represents m n out' s' → s ≡ s'

-- if a memory represents states in two ways, its tables have the same rows
abbrev pub OneShape : Type 0
OneShape =
    (m : ℕ → ℕ) (n : ℕ) (out out' : List ℕ) (s s' : State) (h : Represents m n out s)
    (h' : Represents m n out' s') (i : ℕ) → i < 4 → h'.parts.tables i ≡ h.parts.tables i

-- words after the first n do not matter for a memory of n words
abbrev pub SameWords : Type 0
SameWords =
    (m m' : ℕ → ℕ) (n : ℕ) (out : List ℕ) (s : State) → Represents m n out s →
    ((x : ℕ) → x < n → m' x ≡ m x) → Represents m' n out s

-- the words of an empty heap represent the state without entries
abbrev pub FreshState : Type 0
FreshState =
    (words : List ℕ) (blocks : ℕ) → IsEmptyHeap words blocks →
    IsPool (λ (a : ℕ). slice_index words a) (length words) (fresh_lists blocks) (λ (x : ℕ). 0) 0 →
    Represents (λ (a : ℕ). slice_index words a) (length words) [] (empty_state blocks)

-- the words of an empty partitioned heap represent the state without entries
abbrev pub SpreadState : Type 0
SpreadState =
    (words : List ℕ) (blocks : ℕ) → IsSpreadHeap words blocks →
    IsPool (λ (a : ℕ). slice_index words a) (length words) (spread_lists blocks) (λ (x : ℕ). 0) 0 →
    Represents (λ (a : ℕ). slice_index words a) (length words) [] (empty_state blocks)

-- an item whose key leads to a block has the value of that block
abbrev pub ItemFound : Type 0
ItemFound =
    (m : ℕ → ℕ) (n : ℕ) (out : List ℕ) (s : State) (h : Represents m n out s) (kind : Kind)
    (id b : ℕ) → IsItemAt h kind id b → item_of s kind id ≡ Some (item_in m b)

-- an item whose key leads to no block is not in the state
abbrev pub ItemMissing : Type 0
ItemMissing =
    (m : ℕ → ℕ) (n : ℕ) (out : List ℕ) (s : State) (h : Represents m n out s) (kind : Kind)
    (id : ℕ) → block_at (h.parts.tables (kind_number kind)) id ≡ 0 → item_of s kind id ≡ None

-- a customer whose key leads to a block is in the state, with the bookings of the list of that
-- block
abbrev pub CustomerFound : Type 0
CustomerFound =
    (m : ℕ → ℕ) (n : ℕ) (out : List ℕ) (s : State) (h : Represents m n out s) (id c : ℕ) →
    block_at (h.parts.tables 3) id ≡ c → c ≢ 0 → HasBookings m (h.parts.lists c) s id

-- a customer whose key leads to no block is not in the state
abbrev pub CustomerMissing : Type 0
CustomerMissing =
    (m : ℕ → ℕ) (n : ℕ) (out : List ℕ) (s : State) (h : Represents m n out s) (id : ℕ) →
    block_at (h.parts.tables 3) id ≡ 0 → bookings_of s id ≡ None

-- a booking whose key leads to a block has the value of that block
abbrev pub BookingFound : Type 0
BookingFound =
    (m : ℕ → ℕ) (n : ℕ) (out : List ℕ) (s : State) (h : Represents m n out s) (id c : ℕ)
    (bookings : Bookings) (place : Place) (b : ℕ) →
    IsCustomerAt h id c bookings → IsBookingAt h c place b →
    get bookings place ≡ Some (booking_in m b)

-- a booking whose key leads to no block of the list is not in the state
abbrev pub BookingMissing : Type 0
BookingMissing =
    (m : ℕ → ℕ) (n : ℕ) (out : List ℕ) (s : State) (h : Represents m n out s) (id c : ℕ)
    (bookings : Bookings) (place : Place) → place.1 < 2 ^ 32 →
    IsCustomerAt h id c bookings → block_at (h.parts.lists c) (place_key place) ≡ 0 →
    get bookings place ≡ None

-- if all lists are exhausted and no block is in hand, the state has as many entries as its
-- capacity
abbrev pub NoneLeft : Type 0
NoneLeft =
    (m : ℕ → ℕ) (n : ℕ) (s : State) (h : Represents m n [] s) →
    ((i : ℕ) → i < 8 → h.parts.free i ≡ []) → size s ≡ s.capacity

-- if a block is in hand, the state has fewer entries than its capacity
abbrev pub SomeLeft : Type 0
SomeLeft =
    (m : ℕ → ℕ) (n b : ℕ) (s : State) → Represents m n (b ∷ []) s → size s < s.capacity

-- taking a block does not change the state
abbrev pub BlockTaken : Type 0
BlockTaken =
    (m m' : ℕ → ℕ) (n start b : ℕ) (out : List ℕ) (s : State) (h : Represents m n out s) →
    IsTaking m m' n h.parts.free (used_in h.parts) (count_in h.parts) start b →
    Stays h m' (b ∷ out) s

-- taking a block with a batch refill does not change the state
abbrev pub BlockDrawn : Type 0
BlockDrawn =
    (m m' : ℕ → ℕ) (n start b : ℕ) (out : List ℕ) (s : State) (h : Represents m n out s) →
    IsDrawing m m' n h.parts.free (used_in h.parts) (count_in h.parts) start b →
    Stays h m' (b ∷ out) s

-- giving back a block in hand does not change the state
abbrev pub BlockGiven : Type 0
BlockGiven =
    (m m' : ℕ → ℕ) (n start b : ℕ) (out : List ℕ) (s : State) → start < 8 → IsBlock n b →
    (h : Represents m n (b ∷ out) s) →
    ((used : ℕ → ℕ) (count : ℕ) → IsUsed m n h.parts.free used count b →
    IsGiving m m' n h.parts.free used count start b) → Stays h m' out s

-- writing words of a block in hand does not change the state
abbrev pub BlockWritten : Type 0
BlockWritten =
    (m m' : ℕ → ℕ) (n b : ℕ) (out : List ℕ) (s : State) → IsBlock n b →
    (h : Represents m n (b ∷ out) s) → ((x : ℕ) → (x < b) ⊎ (b + 8 ≤ x) → m' x ≡ m x) →
    Stays h m' (b ∷ out) s

-- inserting a block in hand into a table of items adds that item to the state
abbrev pub ItemInserted : Type 0
ItemInserted =
    (m m' : ℕ → ℕ) (n b : ℕ) (out : List ℕ) (s : State) (kind : Kind) (id : ℕ) → IsBlock n b →
    (h : Represents m n (b ∷ out) s) → block_at (h.parts.tables (kind_number kind)) id ≡ 0 →
    TableGrown m m' n (kind_number kind) (h.parts.tables (kind_number kind)) id b →
    StaysBut h (kind_number kind) (put_row (h.parts.tables (kind_number kind)) id b) m' out
    (with_item s kind id (item_in m b))

-- writing the words of an item, except key and links, changes that item of the state
abbrev pub ItemReplaced : Type 0
ItemReplaced =
    (m m' : ℕ → ℕ) (n : ℕ) (out : List ℕ) (s : State) (kind : Kind) (id b : ℕ)
    (h : Represents m n out s) → IsItemAt h kind id b →
    ((x : ℕ) → (x < b + 4) ⊎ (b + 8 ≤ x) → m' x ≡ m x) →
    Stays h m' out (with_item s kind id (item_in m' b))

-- removing an item from its table removes the item from the state, and its block is then in hand
abbrev pub ItemRemoved : Type 0
ItemRemoved =
    (m m' : ℕ → ℕ) (n : ℕ) (out : List ℕ) (s : State) (kind : Kind) (id b : ℕ)
    (h : Represents m n out s) → IsItemAt h kind id b →
    TableCut m m' n (kind_number kind) (h.parts.tables (kind_number kind)) id →
    StaysBut h (kind_number kind) (cut_row (h.parts.tables (kind_number kind)) id) m' (b ∷ out)
    (without_item s kind id)

-- inserting a block in hand into the table of customers adds a customer without bookings to the
-- state
abbrev pub CustomerInserted : Type 0
CustomerInserted =
    (m m' : ℕ → ℕ) (n b : ℕ) (out : List ℕ) (s : State) (id : ℕ) → IsBlock n b →
    (h : Represents m n (b ∷ out) s) → block_at (h.parts.tables 3) id ≡ 0 → m (b + 4) ≡ 0 →
    TableGrown m m' n 3 (h.parts.tables 3) id b →
    StaysBut h 3 (put_row (h.parts.tables 3) id b) m' out (with_bookings s id empty)

-- removing a customer without bookings from its table removes the customer from the state, and its
-- block is then in hand
abbrev pub CustomerRemoved : Type 0
CustomerRemoved =
    (m m' : ℕ → ℕ) (n : ℕ) (out : List ℕ) (s : State) (id c : ℕ) (h : Represents m n out s) →
    IsCustomerAt h id c empty → TableCut m m' n 3 (h.parts.tables 3) id →
    StaysBut h 3 (cut_row (h.parts.tables 3) id) m' (c ∷ out) (without_customer s id)

-- inserting a block in hand into a customer's list adds that booking to the state
abbrev pub BookingInserted : Type 0
BookingInserted =
    (m m' : ℕ → ℕ) (n b : ℕ) (out : List ℕ) (s : State) (id c : ℕ) (bookings : Bookings)
    (place : Place) → IsBlock n b → (h : Represents m n (b ∷ out) s) →
    IsCustomerAt h id c bookings → place.1 < 2 ^ 32 →
    block_at (h.parts.lists c) (place_key place) ≡ 0 → place_in m b ≡ place →
    ListGrown m m' n c (h.parts.lists c) (place_key place) b →
    Stays h m' out (with_bookings s id (insert bookings place (booking_in m b)))

-- writing the units and the sum of a booking changes that booking of the state
abbrev pub BookingReplaced : Type 0
BookingReplaced =
    (m m' : ℕ → ℕ) (n : ℕ) (out : List ℕ) (s : State) (id c : ℕ) (bookings : Bookings)
    (place : Place) (b : ℕ) (h : Represents m n out s) → IsCustomerAt h id c bookings →
    IsBookingAt h c place b → ((x : ℕ) → x ≢ b + 2 → x ≢ b + 4 → m' x ≡ m x) →
    Stays h m' out (with_bookings s id (insert bookings place (booking_in m' b)))

-- removing a booking from its list removes the booking from the state, and its block is then in
-- hand
abbrev pub BookingRemoved : Type 0
BookingRemoved =
    (m m' : ℕ → ℕ) (n : ℕ) (out : List ℕ) (s : State) (id c : ℕ) (bookings : Bookings)
    (place : Place) (b : ℕ) (h : Represents m n out s) → IsCustomerAt h id c bookings →
    IsBookingAt h c place b → ListCut m m' n c (h.parts.lists c) (place_key place) →
    Stays h m' (b ∷ out) (with_bookings s id (remove bookings place))

-- the blocks of a memory that represents a state are a pool
abbrev pub PoolThere : Type 0
PoolThere =
    (m : ℕ → ℕ) (n : ℕ) (out : List ℕ) (s : State) (h : Represents m n out s) →
    IsPool m n h.parts.free (used_in h.parts) (count_in h.parts)

-- a block in hand is a taken block
abbrev pub HandThere : Type 0
HandThere =
    (m : ℕ → ℕ) (n b : ℕ) (out : List ℕ) (s : State) → IsBlock n b →
    (h : Represents m n (b ∷ out) s) →
    IsUsed m n h.parts.free (used_in (record h.parts { out = out }))
    (count_in (record h.parts { out = out })) b

-- each word from 1 to 4 leads to its table
abbrev pub TableThere : Type 0
TableThere =
    (m : ℕ → ℕ) (n : ℕ) (out : List ℕ) (s : State) (i : ℕ) (h : Represents m n out s) →
    s.capacity ≤ MOST_BLOCKS → i < 4 → Table m n (1 + i) (h.parts.tables i)

-- a customer's head word leads to the customer's list of bookings
abbrev pub ListThere : Type 0
ListThere =
    (m : ℕ → ℕ) (n : ℕ) (out : List ℕ) (s : State) (id c : ℕ) (bookings : Bookings)
    (h : Represents m n out s) → IsCustomerAt h id c bookings →
    IsListAt m n (head_of c) (h.parts.lists c)

-- the sums in the list's blocks add up to the customer's bill
abbrev pub BillThere : Type 0
BillThere =
    (m : ℕ → ℕ) (n : ℕ) (out : List ℕ) (s : State) (id c : ℕ) (bookings : Bookings)
    (h : Represents m n out s) → IsCustomerAt h id c bookings →
    sum_in m (h.parts.lists c) ≡ bill_of bookings
