-- The conditions and the effects of the calls on a list of bookings.
use Rattle.std.specs.Prelude.{◌≡◌, ◌⊎◌, ℕ, ◌+◌, ◌<◌, ◌≤◌, ◌^◌, List, length, Option, None}
use Rattle.tx_memory.specs.View.{View, Sees, RestsOn, Kept}
use Rattle.tx_alloc.specs.declared.place.TheConstants.{BLOCK_WORDS}
use Rattle.tx_alloc.specs.Pointer.{pointer, IsWithin}
use Rattle.tx_alloc.specs.Pool.{IsBlock}
use Rattle.tx_alloc.specs.Rows.{Rows, times, put_row, cut_row, block_at, Relinks}
use Rattle.tx_alloc.specs.Steps.{mem}
use Rattle.vac_bookings.specs.Bookings.{IsList, code_of, first_block, block_behind}
use Rattle.vac_bookings.specs.declared.key.Key.{Key}
use Rattle.vac_bookings.specs.declared.place.TheConstants.{KIND, ID, NEXT}

-- the word is outside this block
abbrev pub IsOutside : ℕ → ℕ → Type 0
IsOutside word block = (word < block) ⊎ (block + BLOCK_WORDS ≤ word)

-- the word head leads to a list of these bookings, and is outside their blocks
pub record IsListAt (m : ℕ → ℕ) (n head : ℕ) (rs : Rows) : Type 0 where
  pub list : IsList m n (m head) rs
  pub outside : (a : ℕ) → 0 < times a rs → IsOutside head a

-- the word head leads to a list of some bookings
pub record SomeList (m : ℕ → ℕ) (n head : ℕ) : Type 0 where
  pub entries : Rows
  pub is : IsListAt m n head entries

-- under each possible image of the memory's size, the word head leads to a list. Addresses fit 32
-- bits.
pub record HasList (s : View) (head : ℕ) : Type 0 where
  pub small : s.size ≤ 2 ^ 32
  pub room : head < s.size
  pub under : (image : List ℕ) → RestsOn s image → SomeList (mem s image) (length image) head

-- only reads were made, and the result is the block of the key, if the list has it
pub record Found (s s' : View) (head key : ℕ) (found : Option ℕ) : Type 0 where
  pub kept : Kept s s'
  pub writes : s'.writes ≡ s.writes
  pub within : IsWithin s' found
  pub is : (image : List ℕ) (rs : Rows) → Sees s' image →
      IsListAt (mem s image) (length image) head rs → pointer found ≡ block_at rs key

-- only reads were made, and the result is the first block, if there is one
pub record First (s s' : View) (head : ℕ) (found : Option ℕ) : Type 0 where
  pub kept : Kept s s'
  pub writes : s'.writes ≡ s.writes
  pub within : IsWithin s' found
  pub is : (image : List ℕ) (rs : Rows) → Sees s' image →
      IsListAt (mem s image) (length image) head rs → pointer found ≡ first_block rs

-- b is the block of a booking in some list
pub record SomeBooking (m : ℕ → ℕ) (n b : ℕ) : Type 0 where
  pub start : ℕ
  pub entries : Rows
  pub list : IsList m n start entries
  pub has : 0 < times b entries

-- under each possible image of the memory's size, b is a block of a list. Addresses fit 32 bits.
pub record HasBooking (s : View) (b : ℕ) : Type 0 where
  pub small : s.size ≤ 2 ^ 32
  pub under : (image : List ℕ) → RestsOn s image → SomeBooking (mem s image) (length image) b

-- only reads were made, and the result is the block after b in each list that has b, if there is
-- one
pub record Next (s s' : View) (b : ℕ) (found : Option ℕ) : Type 0 where
  pub kept : Kept s s'
  pub writes : s'.writes ≡ s.writes
  pub within : IsWithin s' found
  pub is : (image : List ℕ) (start : ℕ) (rs : Rows) → Sees s' image →
      IsList (mem s image) (length image) start rs → 0 < times b rs →
      pointer found ≡ block_behind rs b

-- b is a block with this key and is not in the list, and the list has no row of the key
pub record FreshBooking (m : ℕ → ℕ) (n head : ℕ) (rs : Rows) (key : Key) (b : ℕ) : Type 0 where
  pub block : IsBlock n b
  pub outside : IsOutside head b
  pub absent : block_at rs (code_of key) ≡ 0
  pub loose : times b rs ≡ 0
  pub kind_is : m (b + KIND) ≡ key.kind
  pub id_is : m (b + ID) ≡ key.id

-- under each possible image of the memory's size, b is a block with this key that is in no list at
-- head, and no such list has a row of the key
pub record IsFreshBooking (s : View) (head : ℕ) (key : Key) (b : ℕ) : Type 0 where
  pub under : (image : List ℕ) (rs : Rows) → RestsOn s image →
      IsListAt (mem s image) (length image) head rs →
      FreshBooking (mem s image) (length image) head rs key b

-- the block came into the list under its key, and no word was changed except the head and the
-- links of the list's blocks
pub record IsInsertion (m m' : ℕ → ℕ) (n head key b : ℕ) (rs : Rows) : Type 0 where
  pub list : IsListAt m' n head (put_row rs key b)
  pub relinks : Relinks m m' NEXT head (put_row rs key b)

-- the fresh block came into the list
-- Not said: the effect of a refused call on the list.
pub record InsertedBooking (s s' : View) (head : ℕ) (key : Key) (b : ℕ) : Type 0 where
  pub kept : Kept s s'
  pub insertion : (image : List ℕ) (rs : Rows) → Sees s' image →
      IsListAt (mem s image) (length image) head rs →
      FreshBooking (mem s image) (length image) head rs key b →
      IsInsertion (mem s image) (mem s' image) (length image) head (code_of key) b rs

-- the row of the key was removed, if there was one, and the result is its block. No word was
-- changed except the head and the links of the list's blocks.
pub record IsRemoval (m m' : ℕ → ℕ) (n head key : ℕ) (removed : Option ℕ) (rs : Rows) : Type 0
  where
    pub is : pointer removed ≡ block_at rs key
    pub list : IsListAt m' n head (cut_row rs key)
    pub relinks : Relinks m m' NEXT head rs

-- the booking of the key left the list, if there was one. If there was none, nothing was written.
-- Not said: the effect of a refused call on the list.
pub record RemovedBooking (s s' : View) (head key : ℕ) (removed : Option ℕ) : Type 0 where
  pub kept : Kept s s'
  pub none : removed ≡ None → s'.writes ≡ s.writes
  pub within : IsWithin s' removed
  pub removal : (image : List ℕ) (rs : Rows) → Sees s' image →
      IsListAt (mem s image) (length image) head rs →
      IsRemoval (mem s image) (mem s' image) (length image) head key removed rs
