-- The effects of the steps that mend a tree.
use Rattle.std.specs.Prelude.{◌≡◌, ◌≢◌, ℕ, ◌+◌, ◌-◌, ◌%◌, ◌<◌, ◌≤◌, ◌^◌, List, length, slice_index, true, false}
use Rattle.tx_memory.specs.View.{View, Sees, RestsOn, Kept, IsWrite}
use Rattle.tx_alloc.specs.Steps.{mem}
use Rattle.tx_alloc.specs.Rows.{Rows}
use Rattle.tx_alloc.specs.declared.place.TheConstants.{FIRST_BLOCK, BLOCK_WORDS}
use Rattle.tx_tree.specs.declared.path.TheConstants.{LEVELS}
use Rattle.tx_tree.specs.Tree.{Tree, node, rows, IsEven, IsApart, is_red}
use Rattle.tx_tree.specs.Way.{Way, top, plug, depth}
use Rattle.tx_tree.specs.Balance.{Raised, Short}
use Rattle.tx_tree.specs.Hangs.{Zip, Touches, Turning}
use Rattle.tx_tree.specs.Steps.{IsPath}

-- a rotation with the child c, after which c and p have these colours
pub record Rising (m m' : ℕ → ℕ) (link p c side v v' : ℕ) : Type 0 where
  pub m1 : ℕ → ℕ
  pub m2 : ℕ → ℕ
  pub turning : Turning m m1 link p c side
  pub child : IsWrite m1 m2 (c + 3) v
  pub parent : IsWrite m2 m' (p + 3) v'

-- under each possible image the child c was rotated up, and c and p have these colours
pub record Raising (s s' : View) (link p c side v v' : ℕ) : Type 0 where
  pub kept : Kept s s'
  pub rising : (image : List ℕ) → Sees s' image →
      Rising (mem s image) (mem s' image) link p c side v v'

-- under each possible image the child c was rotated up, and nothing else was written
pub record Rotated (s s' : View) (link p c side : ℕ) : Type 0 where
  pub kept : Kept s s'
  pub turning : (image : List ℕ) → Sees s' image →
      Turning (mem s image) (mem s' image) link p c side

-- the path is the way through some tree
pub record WayAt (m : ℕ → ℕ) (n : ℕ) (xs : List ℕ) (d : ℕ) : Type 0 where
  pub root : ℕ
  pub total : ℕ → ℕ
  pub way : Way
  pub tree : Tree
  pub zip : Zip m n root total way tree
  pub path : IsPath xs root way
  pub deep : d ≡ depth way

-- under each possible image of the memory's size, the path is the way through some tree
pub record HasWay (s : View) (xs : List ℕ) (d : ℕ) : Type 0 where
  pub small : s.size ≤ 2 ^ 32
  pub room : FIRST_BLOCK ≤ s.size
  pub size : length xs ≡ LEVELS
  pub deep : d < LEVELS
  pub under : (image : List ℕ) → RestsOn s image → WayAt (mem s image) (length image) xs d

-- the whole tree is a balanced red-black tree with these rows, and nothing was written except the
-- root and the links and colours of its blocks
pub record IsMended (m m' : ℕ → ℕ) (n root : ℕ) (total : ℕ → ℕ) (rs : Rows) : Type 0 where
  pub tree : Tree
  pub zip : Zip m' n root total top tree
  pub even : IsEven tree
  pub apart : IsApart tree
  pub black : is_red tree ≡ false
  pub is : rows tree ≡ rs
  pub touches : Touches m m' root total

-- the path ends at the red node b, whose parent may be red, too
pub record RaisedAt (m : ℕ → ℕ) (n root : ℕ) (total : ℕ → ℕ) (xs : List ℕ) (d b : ℕ) (w : Way)
    (l : Tree) (k : ℕ) (o : Tree) (h : ℕ) : Type 0 where
  pub zip : Zip m n root total w (node true l (k, b) o)
  pub path : IsPath xs root w
  pub deep : d ≡ depth w
  pub raised : Raised w (node true l (k, b) o) h

-- in some tree the path ends at the red node b, whose parent may be red, too
pub record SomeRaised (m : ℕ → ℕ) (n : ℕ) (xs : List ℕ) (d b : ℕ) : Type 0 where
  pub root : ℕ
  pub total : ℕ → ℕ
  pub way : Way
  pub left : Tree
  pub key : ℕ
  pub right : Tree
  pub blacks : ℕ
  pub at : RaisedAt m n root total xs d b way left key right blacks

-- under each possible image of the memory's size, the path ends at the red node b, whose parent
-- may be red, too
pub record HasRaised (s : View) (xs : List ℕ) (d b : ℕ) : Type 0 where
  pub small : s.size ≤ 2 ^ 32
  pub room : FIRST_BLOCK ≤ s.size
  pub size : length xs ≡ LEVELS
  pub deep : d < LEVELS
  pub under : (image : List ℕ) → RestsOn s image → SomeRaised (mem s image) (length image) xs d b

-- under each possible image the tree with the red node was mended, with the same rows
pub record Settled (s s' : View) (xs : List ℕ) (d b : ℕ) : Type 0 where
  pub kept : Kept s s'
  pub ends : (image : List ℕ) → Sees s' image →
      (root : ℕ) (total : ℕ → ℕ) (w : Way) (l : Tree) (k : ℕ) (o : Tree) (h : ℕ) →
      RaisedAt (mem s image) (length image) root total xs d b w l k o h →
      IsMended (mem s image) (mem s' image) (length image) root total
      (rows (plug w (node true l (k, b) o)))

-- the parent is red, and the uncle is not red
pub record IsToTurn (m : ℕ → ℕ) (l u : ℕ) : Type 0 where
  pub parent : m (l - l % BLOCK_WORDS + 3) ≡ 1
  pub uncle : m (u - u % BLOCK_WORDS + (3 - u % BLOCK_WORDS)) ≢ 0 →
      m (m (u - u % BLOCK_WORDS + (3 - u % BLOCK_WORDS)) + 3) ≢ 1

-- under each possible image the parent is red and the uncle is not red, by the last two links of
-- the path
pub record NeedsTurn (s : View) (xs : List ℕ) (d : ℕ) : Type 0 where
  pub under : (image : List ℕ) → Sees s image →
      IsToTurn (mem s image) (slice_index xs d) (slice_index xs (d - 1))

-- the red node b at the end of the path has a red parent and no red uncle
pub record HasTwoReds (s : View) (xs : List ℕ) (d b : ℕ) : Type 0 where
  pub raised : HasRaised s xs d b
  pub turn : NeedsTurn s xs d
  pub deep : 2 ≤ d

-- the path ends at a tree that has one black node too few and no red root
pub record ShortAt (m : ℕ → ℕ) (n root : ℕ) (total : ℕ → ℕ) (xs : List ℕ) (d : ℕ) (w : Way)
    (t : Tree) (h : ℕ) : Type 0 where
  pub zip : Zip m n root total w t
  pub path : IsPath xs root w
  pub deep : d ≡ depth w
  pub short : Short w t h

-- in some tree the path ends at a subtree that has one black node too few and no red root
pub record SomeShort (m : ℕ → ℕ) (n : ℕ) (xs : List ℕ) (d : ℕ) : Type 0 where
  pub root : ℕ
  pub total : ℕ → ℕ
  pub way : Way
  pub tree : Tree
  pub blacks : ℕ
  pub at : ShortAt m n root total xs d way tree blacks

-- under each possible image of the memory's size, the path ends at a subtree that has one black
-- node too few and no red root
pub record HasShort (s : View) (xs : List ℕ) (d : ℕ) : Type 0 where
  pub small : s.size ≤ 2 ^ 32
  pub room : FIRST_BLOCK ≤ s.size
  pub size : length xs ≡ LEVELS
  pub deep : d < LEVELS
  pub under : (image : List ℕ) → RestsOn s image → SomeShort (mem s image) (length image) xs d

-- under each possible image the tree with the black node too few was mended, with the same rows
pub record Mended (s s' : View) (xs : List ℕ) (d : ℕ) : Type 0 where
  pub kept : Kept s s'
  pub ends : (image : List ℕ) → Sees s' image →
      (root : ℕ) (total : ℕ → ℕ) (w : Way) (t : Tree) (h : ℕ) →
      ShortAt (mem s image) (length image) root total xs d w t h →
      IsMended (mem s image) (mem s' image) (length image) root total (rows (plug w t))
