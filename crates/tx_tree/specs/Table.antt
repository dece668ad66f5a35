-- A table by key. Other crates use the lemmas on IsTable alone, and not its fields.
use Rattle.std.specs.Prelude.{◌≡◌, ◌≢◌, ℕ, ◌+◌, ◌<◌, ◌≤◌, ◌^◌, List, [], ◌∷◌, length, false, zero, suc}
use Rattle.tx_memory.specs.View.{View, Sees, RestsOn, Kept}
use Rattle.tx_alloc.specs.Pool.{IsBlock}
use Rattle.tx_alloc.specs.declared.place.TheConstants.{FIRST_BLOCK, BLOCK_WORDS, MOST_BLOCKS}
use Rattle.tx_alloc.specs.Steps.{mem}
use Rattle.tx_alloc.specs.Rows.{Rows, times, put_row, cut_row, block_at, Relinks, IsFrom}
use Rattle.tx_tree.specs.Tree.{Tree, rows, IsEven, IsApart, is_red}
use Rattle.tx_tree.specs.Hangs.{Hangs}

-- p leads to a table with these rows
pub record IsTable (m : ℕ → ℕ) (n p : ℕ) (rs : Rows) : Type 0 where
  pub tree : Tree
  pub hangs : Hangs m n p tree
  pub is : rows tree ≡ rs
  pub even : IsEven tree
  pub apart : IsApart tree
  pub black : is_red tree ≡ false
  pub ascending : IsFrom 0 rs
  pub once : (x : ℕ) → times x rs ≤ 1

-- there is a way down of h nodes from p: each node is in the left or the right word of the node
-- before
abbrev pub Descends : (ℕ → ℕ) → ℕ → ℕ → Type 0
Descends m p zero = Unit {0}
Descends m p (suc h) = (p ≢ 0) ×
    ((side : ℕ) × (((1 ≤ side) × (side ≤ 2)) × Descends m (m (p + side)) h))

-- the root word leads to a table with these rows, at most as many as a heap has blocks
pub record Table (m : ℕ → ℕ) (n root : ℕ) (rs : Rows) : Type 0 where
  pub table : IsTable m n (m root) rs
  pub few : length rs ≤ MOST_BLOCKS

-- the root word leads to a table with some rows
pub record SomeTable (m : ℕ → ℕ) (n root : ℕ) : Type 0 where
  pub entries : Rows
  pub is : Table m n root entries

-- under each possible image of the memory's size, the root word leads to a table. Addresses fit 32
-- bits.
pub record HasTable (s : View) (root : ℕ) : Type 0 where
  pub small : s.size ≤ 2 ^ 32
  pub room : FIRST_BLOCK ≤ s.size
  pub low : root < FIRST_BLOCK
  pub under : (image : List ℕ) → RestsOn s image → SomeTable (mem s image) (length image) root

-- the words of a block at b are inside a memory of n words, and none of them is a head or a root
abbrev pub IsInside : ℕ → ℕ → Type 0
IsInside n b = (FIRST_BLOCK ≤ b) × (b + BLOCK_WORDS ≤ n)

-- only reads were made, and p is the block of the key, or 0
pub record FoundRow (s s' : View) (root key p : ℕ) : Type 0 where
  pub kept : Kept s s'
  pub writes : s'.writes ≡ s.writes
  pub is : (image : List ℕ) (rs : Rows) → Sees s' image →
      Table (mem s image) (length image) root rs → p ≡ block_at rs key

-- the table has the key, and b is its block
pub record FoundAt (s s' : View) (root key b : ℕ) : Type 0 where
  pub found : FoundRow s s' root key b
  pub inside : IsInside s'.size b

-- b is a block whose first word is this key, and no row has the key
pub record Fresh (m : ℕ → ℕ) (n : ℕ) (rs : Rows) (key b : ℕ) : Type 0 where
  pub block : IsBlock n b
  pub absent : block_at rs key ≡ 0
  pub key_is : m b ≡ key

-- under each possible image of the memory's size, b is a block whose first word is this key, and
-- no table at root has the key
pub record IsFresh (s : View) (root key b : ℕ) : Type 0 where
  pub under : (image : List ℕ) (rs : Rows) → RestsOn s image →
      Table (mem s image) (length image) root rs → Fresh (mem s image) (length image) rs key b

-- the fresh block came into the table under its key
-- Not said: the effect of a refused call on the table; anything of tables of more than 262,144
-- entries.
pub record Inserted (s s' : View) (root key b : ℕ) : Type 0 where
  pub kept : Kept s s'
  pub table : (image : List ℕ) (rs : Rows) → Sees s' image →
      Table (mem s image) (length image) root rs → Fresh (mem s image) (length image) rs key b →
      IsTable (mem s' image) (length image) (mem s' image root) (put_row rs key b)
  pub relinks : (image : List ℕ) (rs : Rows) → Sees s' image →
      Table (mem s image) (length image) root rs → Fresh (mem s image) (length image) rs key b →
      Relinks (mem s image) (mem s' image) 1 root (put_row rs key b)

-- the row of the key was in the table and is removed, and p is its block
-- Not said: the effect of a refused call on the table.
pub record Removed (s s' : View) (root key p : ℕ) : Type 0 where
  pub kept : Kept s s'
  pub inside : IsInside s'.size p
  pub is : (image : List ℕ) (rs : Rows) → Sees s' image →
      Table (mem s image) (length image) root rs → p ≡ block_at rs key
  pub table : (image : List ℕ) (rs : Rows) → Sees s' image →
      Table (mem s image) (length image) root rs →
      IsTable (mem s' image) (length image) (mem s' image root) (cut_row rs key)
  pub relinks : (image : List ℕ) (rs : Rows) → Sees s' image →
      Table (mem s image) (length image) root rs → Relinks (mem s image) (mem s' image) 1 root rs
