-- The blocks of the entries of the state that a memory holds.
use Rattle.std.specs.Prelude.{◌≡◌, ◌≢◌, ℕ, List, length}
use Rattle.tx_memory.specs.View.{View, Sees, RestsOn}
use Rattle.vac_model.specs.declared.items.Kind.{Kind}
use Rattle.vac_model.specs.State.{State, kind_number}
use Rattle.tx_alloc.specs.Rows.{block_at}
use Rattle.tx_tree.specs.Table.{IsInside}
use Rattle.vac_records.specs.Items.{mem}
use Rattle.vac_records.specs.Represents.{IsState}
use Rattle.vac_records.specs.InMemory.{HoldsState}

-- the block of an item, or 0
abbrev pub item_block : {m : ℕ → ℕ} {n : ℕ} {s : State} → IsState m n s → Kind → ℕ → ℕ
item_block h kind id = block_at (h.represents.parts.tables (kind_number kind)) id

-- the block of a customer, or 0
abbrev pub customer_block : {m : ℕ → ℕ} {n : ℕ} {s : State} → IsState m n s → ℕ → ℕ
customer_block h id = block_at (h.represents.parts.tables 3) id

-- under each possible image the item is missing
pub record LacksItem (s : View) (kind : Kind) (id : ℕ) : Type 0 where
  pub none : (image : List ℕ) (state : State) → Sees s image →
      (h : IsState (mem s image) (length image) state) → item_block h kind id ≡ 0

-- under each possible image b is the block of the item
pub record HasItemAt (s : View) (kind : Kind) (id b : ℕ) : Type 0 where
  pub some : b ≢ 0
  pub inside : IsInside s.size b
  pub at : (image : List ℕ) (state : State) → Sees s image →
      (h : IsState (mem s image) (length image) state) → item_block h kind id ≡ b

-- under each possible image the item exists
pub record HasItem (s : View) (kind : Kind) (id : ℕ) : Type 0 where
  pub there : (image : List ℕ) (state : State) → Sees s image →
      (h : IsState (mem s image) (length image) state) → item_block h kind id ≢ 0

-- the memory holds a state, and the item exists
pub record HoldsItem (s : View) (kind : Kind) (id : ℕ) : Type 0 where
  pub state : HoldsState s
  pub item : HasItem s kind id

-- under each possible image the customer is missing
pub record LacksCustomer (s : View) (id : ℕ) : Type 0 where
  pub none : (image : List ℕ) (state : State) → Sees s image →
      (h : IsState (mem s image) (length image) state) → customer_block h id ≡ 0

-- under each possible image c is the block of the customer
pub record HasCustomerAt (s : View) (id c : ℕ) : Type 0 where
  pub some : c ≢ 0
  pub inside : IsInside s.size c
  pub at : (image : List ℕ) (state : State) → Sees s image →
      (h : IsState (mem s image) (length image) state) → customer_block h id ≡ c

-- under each possible image of the memory's size, b is the item's block. Calls require this form
pub record ItemIsAt (s : View) (kind : Kind) (id b : ℕ) : Type 0 where
  pub some : b ≢ 0
  pub inside : IsInside s.size b
  pub at : (image : List ℕ) (state : State) → RestsOn s image →
      (h : IsState (mem s image) (length image) state) → item_block h kind id ≡ b

-- under each possible image of the memory's size, c is the customer's block
pub record CustomerIsAt (s : View) (id c : ℕ) : Type 0 where
  pub some : c ≢ 0
  pub inside : IsInside s.size c
  pub at : (image : List ℕ) (state : State) → RestsOn s image →
      (h : IsState (mem s image) (length image) state) → customer_block h id ≡ c

-- under each possible image of the memory's size, the customer is missing
pub record CustomerIsMissing (s : View) (id : ℕ) : Type 0 where
  pub none : (image : List ℕ) (state : State) → RestsOn s image →
      (h : IsState (mem s image) (length image) state) → customer_block h id ≡ 0

-- under each possible image the items are in the same blocks as before
pub record ItemsStay (s s' : View) : Type 0 where
  pub stay : (image : List ℕ) (state state' : State) → Sees s' image →
      (h : IsState (mem s image) (length image) state) →
      (h' : IsState (mem s' image) (length image) state') →
      (kind : Kind) (id : ℕ) → item_block h' kind id ≡ item_block h kind id

-- under each possible image the customers are in the same blocks as before
pub record CustomersStay (s s' : View) : Type 0 where
  pub stay : (image : List ℕ) (state state' : State) → Sees s' image →
      (h : IsState (mem s image) (length image) state) →
      (h' : IsState (mem s' image) (length image) state') →
      (id : ℕ) → customer_block h' id ≡ customer_block h id
