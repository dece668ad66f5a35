-- A table with a known number of entries.
use Rattle.std.specs.Prelude.{◌≡◌, ℕ, ◌<◌, ◌≤◌, List, length}
use Rattle.tx_memory.specs.View.{View, RestsOn}
use Rattle.tx_alloc.specs.Steps.{mem}
use Rattle.tx_alloc.specs.Pool.{heap_words}
use Rattle.tx_alloc.specs.declared.place.TheConstants.{FIRST_BLOCK, MOST_BLOCKS}
use Rattle.tx_alloc.specs.Rows.{Rows}
use Rattle.tx_tree.specs.Table.{IsTable}

-- the root word leads to a table with this many entries
pub record SomeEntries (m : ℕ → ℕ) (n root count : ℕ) : Type 0 where
  pub entries : Rows
  pub table : IsTable m n (m root) entries
  pub is : length entries ≡ count

-- under each possible image of the memory's size, the root word leads to a table with this number
-- of entries, in a memory of this number of blocks
pub record HasEntries (s : View) (root blocks count : ℕ) : Type 0 where
  pub size : s.size ≡ heap_words blocks
  pub small : blocks ≤ MOST_BLOCKS
  pub low : root < FIRST_BLOCK
  pub few : count ≤ MOST_BLOCKS
  pub under : (image : List ℕ) → RestsOn s image →
      SomeEntries (mem s image) (length image) root count
