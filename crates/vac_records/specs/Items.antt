-- Items in blocks of a transactional memory. The words of a block are key, left, right, colour,
-- used, free, total, price.
use Rattle.std.specs.Prelude.{◌≡◌, ◌≢◌, ◌⊎◌, ℕ, ◌+◌, ◌<◌, ◌≤◌, ◌^◌, List}
use Rattle.tx_memory.specs.View.{View, Sees, RestsOn, Kept, IsWrite}
use Rattle.tx_alloc.specs.declared.place.TheConstants.{BLOCK_WORDS}
use Rattle.vac_model.specs.declared.items.Item.{Item}
use Rattle.vac_records.specs.declared.place.TheConstants.{USED, FREE, TOTAL, PRICE}
pub use Rattle.tx_alloc.specs.Steps.{mem}

-- the item in the block that starts at node
abbrev pub item_in : (ℕ → ℕ) → ℕ → Item
item_in m node = record {
  used = m (node + USED);
  free = m (node + FREE);
  total = m (node + TOTAL);
  price = m (node + PRICE);
}

-- the eight words from node on are inside the memory, and each address fits 32 bits
pub record IsNode (s : View) (node : ℕ) : Type 0 where
  pub inside : node + BLOCK_WORDS ≤ s.size
  pub small : s.size ≤ 2 ^ 32

-- under each possible image of the memory's size, num units can be added to the item's free units
-- and to its total, and both fit 64 bits
pub record HasRoomForUnits (s : View) (node num : ℕ) : Type 0 where
  pub free : (image : List ℕ) → RestsOn s image → mem s image (node + FREE) + num < 2 ^ 64
  pub total : (image : List ℕ) → RestsOn s image → mem s image (node + TOTAL) + num < 2 ^ 64

-- the block is now an item without used units; its links and all words outside the block are as
-- before
pub record IsNewItem (m m' : ℕ → ℕ) (node key num price : ℕ) : Type 0 where
  pub key_is : m' node ≡ key
  pub used_is : m' (node + USED) ≡ 0
  pub free_is : m' (node + FREE) ≡ num
  pub total_is : m' (node + TOTAL) ≡ num
  pub price_is : m' (node + PRICE) ≡ price
  pub others : (x : ℕ) → x ≢ node → (x < node + USED) ⊎ (node + BLOCK_WORDS ≤ x) → m' x ≡ m x

-- num free units were added to the item, and all other words are as before
pub record HasMore (m m' : ℕ → ℕ) (node num : ℕ) : Type 0 where
  pub free_is : m' (node + FREE) ≡ m (node + FREE) + num
  pub total_is : m' (node + TOTAL) ≡ m (node + TOTAL) + num
  pub others : (x : ℕ) → x ≢ node + FREE → x ≢ node + TOTAL → m' x ≡ m x

-- under each possible image the block is now a new item
-- Not said: the effect of a refused call on the block.
pub record ItemMade (s s' : View) (node key num price : ℕ) : Type 0 where
  pub kept : Kept s s'
  pub made : (image : List ℕ) → Sees s' image →
      IsNewItem (mem s image) (mem s' image) node key num price

-- under each possible image num units were added to the item
-- Not said: the effect of a refused call on the item.
pub record UnitsAdded (s s' : View) (node num : ℕ) : Type 0 where
  pub kept : Kept s s'
  pub added : (image : List ℕ) → Sees s' image → HasMore (mem s image) (mem s' image) node num

-- under each possible image of the memory's size, the word can grow by this number and fits 64
-- bits
pub record RoomAt (s : View) (a by : ℕ) : Type 0 where
  pub fits : (image : List ℕ) → RestsOn s image → mem s image a + by < 2 ^ 64

-- under each possible image of the memory's size, the word is at least this number
pub record EnoughAt (s : View) (a by : ℕ) : Type 0 where
  pub enough : (image : List ℕ) → RestsOn s image → by ≤ mem s image a

-- the word is inside the memory, and can grow by this number
pub record CanRaise (s : View) (a by : ℕ) : Type 0 where
  pub inside : a < s.size
  pub room : RoomAt s a by

-- the word is inside the memory, and is at least this number
pub record CanLower (s : View) (a by : ℕ) : Type 0 where
  pub inside : a < s.size
  pub enough : EnoughAt s a by

-- under each possible image the word was changed by f, and no other word was changed
pub record Shifted (s s' : View) (a : ℕ) (f : ℕ → ℕ) : Type 0 where
  pub kept : Kept s s'
  pub shifted : (image : List ℕ) → Sees s' image →
      IsWrite (mem s image) (mem s' image) a (f (mem s image a))

-- under each possible image at least num units are free, and the total is at least num
pub record HasFree (s : View) (node num : ℕ) : Type 0 where
  pub free : EnoughAt s (node + FREE) num
  pub total : EnoughAt s (node + TOTAL) num

-- under each possible image this number of units is free, num is at most that number, and the used
-- units can grow by num
pub record CanMakeOf (s : View) (node num free : ℕ) : Type 0 where
  pub free_is : (image : List ℕ) → RestsOn s image → mem s image (node + FREE) ≡ free
  pub enough : num ≤ free
  pub used : RoomAt s (node + USED) num

-- under each possible image at least num units are used, and the free units can grow by num
pub record CanCancel (s : View) (node num : ℕ) : Type 0 where
  pub used : EnoughAt s (node + USED) num
  pub free : RoomAt s (node + FREE) num

-- the block's item now has this value, and all words except those of the item are as before
pub record IsItemNow (m m' : ℕ → ℕ) (node : ℕ) (item : Item) : Type 0 where
  pub is : item_in m' node ≡ item
  pub others : (x : ℕ) → (x < node + USED) ⊎ (node + BLOCK_WORDS ≤ x) → m' x ≡ m x

-- under each possible image the item was changed by f
-- Not said: the effect of a refused call on the item.
pub record ItemChanged (s s' : View) (node : ℕ) (f : Item → Item) : Type 0 where
  pub kept : Kept s s'
  pub changed : (image : List ℕ) → Sees s' image →
      IsItemNow (mem s image) (mem s' image) node (f (item_in (mem s image) node))

-- under each possible image on which this number of units was free, the item was changed by f
pub record ItemChangedOf (s s' : View) (node free : ℕ) (f : Item → Item) : Type 0 where
  pub kept : Kept s s'
  pub changed : (image : List ℕ) → Sees s' image → mem s image (node + FREE) ≡ free →
      IsItemNow (mem s image) (mem s' image) node (f (item_in (mem s image) node))
