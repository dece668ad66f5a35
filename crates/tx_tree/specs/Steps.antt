-- The effects of the steps of a call.
use Rattle.std.specs.Prelude.{◌≡◌, ◌≢◌, ℕ, ◌+◌, ◌<◌, ◌≤◌, List, length, slice_index, Bool, true, false}
use Rattle.tx_memory.specs.View.{View, Sees, Kept, Loaded}
use Rattle.tx_alloc.specs.Steps.{mem}
use Rattle.tx_alloc.specs.Rows.{Rows, times, AllBelow, IsFrom}
use Rattle.tx_alloc.specs.declared.place.TheConstants.{FIRST_BLOCK, BLOCK_WORDS}
use Rattle.tx_tree.specs.declared.path.TheConstants.{LEVELS}
use Rattle.tx_tree.specs.Tree.{Tree, rows, IsEven, IsApart, is_red}
use Rattle.tx_tree.specs.Way.{Way, top, step, plug, depth, front, behind}
use Rattle.tx_tree.specs.Hangs.{off, Zip}
use Rattle.tx_tree.specs.Table.{Table}

-- the link leads to p, which is 0 or a block of the memory
pub record Reached (s s' : View) (link p : ℕ) : Type 0 where
  pub loaded : Loaded s s' link p
  pub room : p ≢ 0 → (FIRST_BLOCK ≤ p) × (p + BLOCK_WORDS ≤ s'.size)

-- the node p exists and is red; or, if `red` is false, p is 0 or black
pub record Coloured (s s' : View) (p : ℕ) (red : Bool) : Type 0 where
  pub kept : Kept s s'
  pub writes : s'.writes ≡ s.writes
  pub there : red ≡ true → p ≢ 0
  pub is_one : red ≡ true → (image : List ℕ) → Sees s' image → mem s image (p + 3) ≡ 1
  pub is_none : red ≡ false → p ≢ 0 → (image : List ℕ) → Sees s' image → mem s image (p + 3) ≢ 1

-- the list has the links of a way, from the root on
abbrev pub IsPath : List ℕ → ℕ → Way → Type 0
IsPath xs root top = slice_index xs 0 ≡ root
IsPath xs root (step right c r o w) = (slice_index xs (depth w + 1) ≡ r.1 + off right) × IsPath xs
    root w

-- the search for a key ended at a tree that has the row of the key, if the table has the key
pub record PlaceOfKey (m : ℕ → ℕ) (n root key : ℕ) (xs : List ℕ) (d : ℕ) (rs : Rows) : Type 0 where
  pub way : Way
  pub tree : Tree
  pub zip : Zip m n root (λ x. times x rs) way tree
  pub path : IsPath xs root way
  pub deep : d ≡ depth way
  pub is : rows (plug way tree) ≡ rs
  pub even : IsEven (plug way tree)
  pub apart : IsApart (plug way tree)
  pub black : is_red (plug way tree) ≡ false
  pub below : AllBelow key (front way)
  pub above : IsFrom (key + 1) (behind way)

-- in the search so far only reads were made, and the search is at a tree that has the row of the
-- key, if the table has the key
pub record Seeking (s s' : View) (root key : ℕ) (xs : List ℕ) (d : ℕ) : Type 0 where
  pub kept : Kept s s'
  pub writes : s'.writes ≡ s.writes
  pub deep : d < LEVELS
  pub size : length xs ≡ LEVELS
  pub place : (image : List ℕ) (rs : Rows) → Sees s' image →
      Table (mem s image) (length image) root rs →
      PlaceOfKey (mem s image) (length image) root key xs d rs

-- the search has ended: there is no tree, or the root of the tree has the key
pub record SoughtKey (s s' : View) (root key : ℕ) (xs : List ℕ) (d p : ℕ) : Type 0 where
  pub seeking : Seeking s s' root key xs d
  pub there : p ≢ 0 → (FIRST_BLOCK ≤ p) × (p + BLOCK_WORDS ≤ s'.size)
  pub is : (image : List ℕ) → Sees s' image → mem s image (slice_index xs d) ≡ p
  pub key_is : p ≢ 0 → (image : List ℕ) → Sees s' image → mem s image p ≡ key
