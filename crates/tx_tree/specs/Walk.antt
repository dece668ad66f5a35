-- A walk over a table in the order of the keys, as the list of the rows that are still to come.
use Rattle.std.specs.Prelude.{◌≡◌, ℕ, ◌+◌, ◌<◌, ◌≤◌, ◌^◌, List, [], ◌∷◌, ◌++◌, length, slice_index, zero, suc, Option, Some, None, MatchOption}
use Rattle.tx_memory.specs.View.{View, Sees, RestsOn, Kept}
use Rattle.tx_alloc.specs.Pool.{IsBlock}
use Rattle.tx_alloc.specs.Steps.{mem}
use Rattle.tx_alloc.specs.Rows.{Rows}
use Rattle.tx_tree.specs.declared.path.TheConstants.{LEVELS}
use Rattle.tx_tree.specs.declared.walk.Walk.{Walk}
use Rattle.tx_tree.specs.Tree.{Tree, rows, height}
use Rattle.tx_tree.specs.Hangs.{Hangs}
use Rattle.tx_tree.specs.Table.{Table, IsInside}

-- the first of these rows is that of the node p; the rows of its right subtree follow, and then
-- the rest. The stack below the node has d nodes and room for the right subtree
pub record OnTop (m : ℕ → ℕ) (n p d : ℕ) (rs rest : Rows) : Type 0 where
  pub right : Tree
  pub block : IsBlock n p
  pub hangs : Hangs m n (m (p + 2)) right
  pub room : d + height right < LEVELS
  pub is : rs ≡ (m p, p) ∷ (rows right ++ rest)

-- the rows that are still to come if the stack has these d nodes
abbrev pub Ahead : (ℕ → ℕ) → ℕ → List ℕ → ℕ → Rows → Type 0
Ahead m n nodes zero rs = rs ≡ []
Ahead m n nodes (suc d) rs = (rest : Rows) ×
    (OnTop m n (slice_index nodes d) d rs rest × Ahead m n nodes d rest)

-- the rows that are still to come in a walk
abbrev pub IsAhead : (ℕ → ℕ) → ℕ → Walk → Rows → Type 0
IsAhead m n walk rs = Ahead m n walk.nodes walk.depth rs

-- the rows of the tree to which the link leads, followed by the rows that are still to come in the
-- walk
pub record Leads (m : ℕ → ℕ) (n : ℕ) (walk : Walk) (link : ℕ) (rs : Rows) : Type 0 where
  pub tree : Tree
  pub rest : Rows
  pub hangs : Hangs m n (m link) tree
  pub room : walk.depth + height tree ≤ LEVELS
  pub is : rs ≡ rows tree ++ rest
  pub ahead : IsAhead m n walk rest

-- under each possible image of the memory's size, some list of rows is still to come. Addresses
-- fit 32 bits.
pub record HasWalk (s : View) (walk : Walk) : Type 0 where
  pub small : s.size ≤ 2 ^ 32
  pub under : (image : List ℕ) → RestsOn s image →
      (rs : Rows) × IsAhead (mem s image) (length image) walk rs

-- under each possible image of the memory's size, the link leads to a tree for which the stack has
-- room
pub record LeadsOn (s : View) (walk : Walk) (link : ℕ) : Type 0 where
  pub small : s.size ≤ 2 ^ 32
  pub low : link < s.size
  pub under : (image : List ℕ) → RestsOn s image →
      (rs : Rows) × Leads (mem s image) (length image) walk link rs

-- only reads were made, and the rows of the tree at the link were put before the rows of the walk
pub record Descended (s s' : View) (walk : Walk) (link : ℕ) (walk' : Walk) : Type 0 where
  pub kept : Kept s s'
  pub writes : s'.writes ≡ s.writes
  pub is : (image : List ℕ) (rs : Rows) → Sees s' image →
      Leads (mem s image) (length image) walk link rs →
      IsAhead (mem s image) (length image) walk' rs

-- only reads were made, and all rows of the table are still to come
pub record Begun (s s' : View) (root : ℕ) (walk : Walk) : Type 0 where
  pub kept : Kept s s'
  pub writes : s'.writes ≡ s.writes
  pub is : (image : List ℕ) (rs : Rows) → Sees s' image →
      Table (mem s image) (length image) root rs →
      IsAhead (mem s image) (length image) walk rs

-- the block of the first row, if there is one
abbrev pub first_block : Rows → Option ℕ
first_block [] = None
first_block (r ∷ rs) = Some r.1

-- the rows after the first
abbrev pub later_rows : Rows → Rows
later_rows [] = []
later_rows (r ∷ rs) = rs

-- only reads were made, and `next` is the block of the first row that was still to come, or None
-- if there was none. The rows after the first are still to come
-- Not said: the effect of a refused call on the walk.
pub record Stepped (s s' : View) (walk walk' : Walk) (next : Option ℕ) : Type 0 where
  pub kept : Kept s s'
  pub writes : s'.writes ≡ s.writes
  pub inside : MatchOption next (Unit {0}) (λ b. IsInside s'.size b)
  pub is : (image : List ℕ) (rs : Rows) → Sees s' image →
      IsAhead (mem s image) (length image) walk rs →
      (first_block rs ≡ next) × IsAhead (mem s image) (length image) walk' (later_rows rs)
