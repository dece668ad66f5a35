-- The steps that mend a tree with too few black nodes.
use Rattle.std.specs.Prelude.{◌≡◌, ℕ, ◌+◌, ◌-◌, ◌≤◌, ◌^◌, List, length, Bool, true, false, not}
use Rattle.tx_memory.specs.View.{View, Sees, RestsOn, Kept}
use Rattle.tx_alloc.specs.Steps.{mem}
use Rattle.tx_alloc.specs.Rows.{Rows}
use Rattle.tx_alloc.specs.declared.place.TheConstants.{FIRST_BLOCK}
use Rattle.tx_tree.specs.Tree.{Tree, rows, is_red}
use Rattle.tx_tree.specs.Way.{Way, step, plug}
use Rattle.tx_tree.specs.Balance.{Short}
use Rattle.tx_tree.specs.Hangs.{off, link_of, Zip, Touches}
use Rattle.tx_tree.specs.Mending.{IsMended, ShortAt}

-- the child of a node at this side has one black node too few, and its sibling is black
pub record LiftAt (m : ℕ → ℕ) (n root : ℕ) (total : ℕ → ℕ) (link p q side : ℕ) (w : Way)
    (right c : Bool) (k : ℕ) (o t : Tree) (h : ℕ) : Type 0 where
  pub zip : Zip m n root total (step right c (k, p) o w) t
  pub link_is : link ≡ link_of root w
  pub side_is : side ≡ off right
  pub beside_is : m (p + off (not right)) ≡ q
  pub black : is_red o ≡ false
  pub short : Short (step right c (k, p) o w) t h

-- in some tree the child of p at this side has one black node too few, and its sibling q is black
pub record SomeLift (m : ℕ → ℕ) (n link p q side : ℕ) : Type 0 where
  pub root : ℕ
  pub total : ℕ → ℕ
  pub way : Way
  pub right : Bool
  pub colour : Bool
  pub key : ℕ
  pub other : Tree
  pub tree : Tree
  pub blacks : ℕ
  pub at : LiftAt m n root total link p q side way right colour key other tree blacks

-- under each possible image of the memory's size, the child of p at this side has one black node
-- too few, and its sibling q is black
pub record HasLift (s : View) (link p q side : ℕ) : Type 0 where
  pub small : s.size ≤ 2 ^ 32
  pub room : FIRST_BLOCK ≤ s.size
  pub under : (image : List ℕ) → RestsOn s image →
      SomeLift (mem s image) (length image) link p q side

-- the tree at the end of this way has one black node too few
pub record ShortHere (m m' : ℕ → ℕ) (n root : ℕ) (total : ℕ → ℕ) (w : Way) (rs : Rows) : Type 0
  where
    pub tree : Tree
    pub blacks : ℕ
    pub zip : Zip m' n root total w tree
    pub short : Short w tree blacks
    pub is : rows (plug w tree) ≡ rs
    pub touches : Touches m m' root total

-- the tree is mended, or, if `done` is false, the whole subtree to which the link leads has one
-- black node too few
pub record Lifted (s s' : View) (link p q side : ℕ) (done : Bool) : Type 0 where
  pub kept : Kept s s'
  pub ends : done ≡ true → (image : List ℕ) → Sees s' image →
      (root : ℕ) (total : ℕ → ℕ) (w : Way) (right c : Bool) (k : ℕ) (o t : Tree) (h : ℕ) →
      LiftAt (mem s image) (length image) root total link p q side w right c k o t h →
      IsMended (mem s image) (mem s' image) (length image) root total
      (rows (plug (step right c (k, p) o w) t))
  pub goes : done ≡ false → (image : List ℕ) → Sees s' image →
      (root : ℕ) (total : ℕ → ℕ) (w : Way) (right c : Bool) (k : ℕ) (o t : Tree) (h : ℕ) →
      LiftAt (mem s image) (length image) root total link p q side w right c k o t h →
      (c ≡ false) × ShortHere (mem s image) (mem s' image) (length image) root total w
      (rows (plug (step right c (k, p) o w) t))

-- the tree one step up the path has one black node too few
pub record ShortUp (m m' : ℕ → ℕ) (n root : ℕ) (total : ℕ → ℕ) (xs : List ℕ) (d : ℕ) (rs : Rows) :
    Type 0 where
  pub way : Way
  pub tree : Tree
  pub blacks : ℕ
  pub at : ShortAt m' n root total xs d way tree blacks
  pub is : rows (plug way tree) ≡ rs
  pub touches : Touches m m' root total

-- the tree is mended, or, if `done` is false, the tree one step up the path has one black node too
-- few
pub record Stepped (s s' : View) (xs : List ℕ) (d : ℕ) (done : Bool) : Type 0 where
  pub kept : Kept s s'
  pub ends : done ≡ true → (image : List ℕ) → Sees s' image →
      (root : ℕ) (total : ℕ → ℕ) (w : Way) (t : Tree) (h : ℕ) →
      ShortAt (mem s image) (length image) root total xs d w t h →
      IsMended (mem s image) (mem s' image) (length image) root total (rows (plug w t))
  pub goes : done ≡ false → (image : List ℕ) → Sees s' image →
      (root : ℕ) (total : ℕ → ℕ) (w : Way) (t : Tree) (h : ℕ) →
      ShortAt (mem s image) (length image) root total xs d w t h →
      ShortUp (mem s image) (mem s' image) (length image) root total xs (d - 1) (rows (plug w t))
