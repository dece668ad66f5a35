-- The steps that replace a node to be removed by the least node of its right subtree.
use Rattle.std.specs.Prelude.{◌≡◌, ◌≢◌, ℕ, ◌+◌, ◌<◌, ◌≤◌, ◌^◌, List, length, Bool, false, ◌++◌}
use Rattle.tx_memory.specs.View.{View, Sees, RestsOn, Kept, IsWrite}
use Rattle.tx_alloc.specs.Steps.{mem}
use Rattle.tx_alloc.specs.Rows.{Rows}
use Rattle.tx_alloc.specs.declared.place.TheConstants.{FIRST_BLOCK}
use Rattle.tx_tree.specs.declared.path.TheConstants.{LEVELS, MOST_HEIGHT}
use Rattle.tx_tree.specs.Tree.{Tree, node, rows, IsEven, IsApart, is_red, height}
use Rattle.tx_tree.specs.Way.{Way, top, plug, depth, front, behind}
use Rattle.tx_tree.specs.Balance.{Sound}
use Rattle.tx_tree.specs.Hangs.{Zip, Touches, without_block}
use Rattle.tx_tree.specs.Steps.{IsPath}

-- the block b has the links and the colour of a, and the link leads to b
pub record Replacing (m m' : ℕ → ℕ) (link a b : ℕ) : Type 0 where
  pub ma : ℕ → ℕ
  pub mb : ℕ → ℕ
  pub mc : ℕ → ℕ
  pub v1 : ℕ
  pub v2 : ℕ
  pub v3 : ℕ
  pub e1 : m (a + 1) ≡ v1
  pub w1 : IsWrite m ma (b + 1) v1
  pub e2 : ma (a + 2) ≡ v2
  pub w2 : IsWrite ma mb (b + 2) v2
  pub e3 : mb (a + 3) ≡ v3
  pub w3 : IsWrite mb mc (b + 3) v3
  pub w4 : IsWrite mc m' link b

-- under each possible image the block b took the place of a
pub record Replaced (s s' : View) (link a b : ℕ) : Type 0 where
  pub kept : Kept s s'
  pub replacing : (image : List ℕ) → Sees s' image →
      Replacing (mem s image) (mem s' image) link a b

-- the path ends at the node b, which has a right child
pub record BothAt (m : ℕ → ℕ) (n root : ℕ) (total : ℕ → ℕ) (xs : List ℕ) (d b : ℕ) (w : Way)
    (c : Bool) (l : Tree) (k : ℕ) (t : Tree) (h : ℕ) : Type 0 where
  pub zip : Zip m n root total w (node c l (k, b) t)
  pub path : IsPath xs root w
  pub deep : d ≡ depth w
  pub sound : Sound w (node c l (k, b) t) h
  pub some : m (b + 2) ≢ 0
  pub tall : height (plug w (node c l (k, b) t)) ≤ MOST_HEIGHT

-- in some tree the path ends at the node b, which has a right child
pub record SomeBoth (m : ℕ → ℕ) (n : ℕ) (xs : List ℕ) (d b : ℕ) : Type 0 where
  pub root : ℕ
  pub total : ℕ → ℕ
  pub way : Way
  pub colour : Bool
  pub left : Tree
  pub key : ℕ
  pub right : Tree
  pub blacks : ℕ
  pub at : BothAt m n root total xs d b way colour left key right blacks

-- under each possible image of the memory's size, the path ends at the node b, which has a right
-- child
pub record HasBoth (s : View) (xs : List ℕ) (d b : ℕ) : Type 0 where
  pub small : s.size ≤ 2 ^ 32
  pub room : FIRST_BLOCK ≤ s.size
  pub size : length xs ≡ LEVELS
  pub deep : d < LEVELS
  pub under : (image : List ℕ) → RestsOn s image → SomeBoth (mem s image) (length image) xs d b

-- the whole tree is a balanced red-black tree with these rows and without the block b
pub record GoneEnds (m m' : ℕ → ℕ) (n root : ℕ) (total : ℕ → ℕ) (b : ℕ) (rs : Rows) : Type 0 where
  pub tree : Tree
  pub zip : Zip m' n root (without_block total b) top tree
  pub even : IsEven tree
  pub apart : IsApart tree
  pub black : is_red tree ≡ false
  pub is : rows tree ≡ rs
  pub touches : Touches m m' root total

-- under each possible image b left its tree, which is a balanced red-black tree with all other
-- rows
pub record NextUnlinked (s s' : View) (xs : List ℕ) (d b : ℕ) : Type 0 where
  pub kept : Kept s s'
  pub ends : (image : List ℕ) → Sees s' image →
      (root : ℕ) (total : ℕ → ℕ) (w : Way) (c : Bool) (l : Tree) (k : ℕ) (t : Tree) (h : ℕ) →
      BothAt (mem s image) (length image) root total xs d b w c l k t h →
      GoneEnds (mem s image) (mem s' image) (length image) root total b
      (front w ++ ((rows l ++ rows t) ++ behind w))
