-- The effects of the steps of a removal.
use Rattle.std.specs.Prelude.{◌≡◌, ℕ, ◌+◌, ◌<◌, ◌≤◌, ◌^◌, List, length, slice_index, Bool, false, not}
use Rattle.tx_memory.specs.View.{View, Sees, RestsOn, Kept}
use Rattle.tx_alloc.specs.Steps.{mem}
use Rattle.tx_alloc.specs.declared.place.TheConstants.{FIRST_BLOCK}
use Rattle.tx_tree.specs.declared.path.TheConstants.{LEVELS}
use Rattle.tx_tree.specs.Tree.{Tree, leaf, join, rows, EvenAt, IsApart}
use Rattle.tx_tree.specs.Way.{Way, plug, depth, IsEvenWay, IsApartWay}
use Rattle.tx_tree.specs.Balance.{Sound}
use Rattle.tx_tree.specs.Hangs.{off, Zip, without_block}
use Rattle.tx_tree.specs.Steps.{IsPath}
use Rattle.tx_tree.specs.Mending.{IsMended}

-- the path ends at a tree to which p leads. The tree has one black node too few, and may be red
-- below a red node
pub record LooseAt (m : ℕ → ℕ) (n root : ℕ) (total : ℕ → ℕ) (xs : List ℕ) (d p : ℕ) (w : Way)
    (t : Tree) (h : ℕ) : Type 0 where
  pub zip : Zip m n root total w t
  pub path : IsPath xs root w
  pub deep : d ≡ depth w
  pub leads : m (slice_index xs d) ≡ p
  pub even : EvenAt t h
  pub way : IsEvenWay w (h + 1)
  pub apart : IsApart t
  pub fits : IsApartWay w false

-- in some tree the path ends at a subtree to which p leads, and which has one black node too few
pub record SomeLoose (m : ℕ → ℕ) (n : ℕ) (xs : List ℕ) (d p : ℕ) : Type 0 where
  pub root : ℕ
  pub total : ℕ → ℕ
  pub way : Way
  pub tree : Tree
  pub blacks : ℕ
  pub at : LooseAt m n root total xs d p way tree blacks

-- under each possible image of the memory's size, the path ends at a subtree to which p leads, and
-- which has one black node too few
pub record HasLoose (s : View) (xs : List ℕ) (d p : ℕ) : Type 0 where
  pub small : s.size ≤ 2 ^ 32
  pub room : FIRST_BLOCK ≤ s.size
  pub size : length xs ≡ LEVELS
  pub deep : d < LEVELS
  pub under : (image : List ℕ) → RestsOn s image → SomeLoose (mem s image) (length image) xs d p

-- under each possible image the tree with the black node too few was mended, with the same rows
pub record Lightened (s s' : View) (xs : List ℕ) (d p : ℕ) : Type 0 where
  pub kept : Kept s s'
  pub ends : (image : List ℕ) → Sees s' image →
      (root : ℕ) (total : ℕ → ℕ) (w : Way) (t : Tree) (h : ℕ) →
      LooseAt (mem s image) (length image) root total xs d p w t h →
      IsMended (mem s image) (mem s' image) (length image) root total (rows (plug w t))

-- the path ends at the node b, which has at most one child; p is that child, or 0
pub record LastAt (m : ℕ → ℕ) (n root : ℕ) (total : ℕ → ℕ) (xs : List ℕ) (d b p : ℕ) (w : Way)
    (right c : Bool) (k : ℕ) (t : Tree) (h : ℕ) : Type 0 where
  pub zip : Zip m n root total w (join right c leaf (k, b) t)
  pub path : IsPath xs root w
  pub deep : d ≡ depth w
  pub leads : m (b + off (not right)) ≡ p
  pub sound : Sound w (join right c leaf (k, b) t) h

-- in some tree the path ends at the node b, which has at most one child; p is that child, or 0
pub record SomeLast (m : ℕ → ℕ) (n : ℕ) (xs : List ℕ) (d b p : ℕ) : Type 0 where
  pub root : ℕ
  pub total : ℕ → ℕ
  pub way : Way
  pub right : Bool
  pub colour : Bool
  pub key : ℕ
  pub tree : Tree
  pub blacks : ℕ
  pub at : LastAt m n root total xs d b p way right colour key tree blacks

-- under each possible image of the memory's size, the path ends at the node b, which has at most
-- one child; p is that child, or 0
pub record HasLast (s : View) (xs : List ℕ) (d b p : ℕ) : Type 0 where
  pub small : s.size ≤ 2 ^ 32
  pub room : FIRST_BLOCK ≤ s.size
  pub size : length xs ≡ LEVELS
  pub deep : d < LEVELS
  pub under : (image : List ℕ) → RestsOn s image → SomeLast (mem s image) (length image) xs d b p

-- under each possible image b left its tree, which is a balanced red-black tree with all other
-- rows
pub record Unlinked (s s' : View) (xs : List ℕ) (d b p : ℕ) : Type 0 where
  pub kept : Kept s s'
  pub ends : (image : List ℕ) → Sees s' image →
      (root : ℕ) (total : ℕ → ℕ) (w : Way) (right c : Bool) (k : ℕ) (t : Tree) (h : ℕ) →
      LastAt (mem s image) (length image) root total xs d b p w right c k t h →
      IsMended (mem s image) (mem s' image) (length image) root (without_block total b)
      (rows (plug w t))
