-- A tree in a flat memory. The first four words of a block are key, left, right and colour.
use Rattle.std.specs.Prelude.{◌≡◌, ◌≢◌, ◌⊎◌, ℕ, ◌+◌, ◌-◌, ◌<◌, ◌≤◌, Bool, true, false, not, cond, nat_eq, [], ◌∷◌}
use Rattle.tx_memory.specs.View.{IsWrite}
use Rattle.tx_alloc.specs.Pool.{IsBlock}
use Rattle.tx_alloc.specs.Rows.{times}
use Rattle.tx_alloc.specs.declared.place.TheConstants.{FIRST_BLOCK}
use Rattle.tx_tree.specs.Tree.{Tree, leaf, node}
use Rattle.tx_tree.specs.Way.{Way, top, step}

-- p is the block of the row r, and has this colour
pub record IsNodeOfRow (m : ℕ → ℕ) (n p : ℕ) (c : Bool) (r : ℕ × ℕ) : Type 0 where
  pub at : p ≡ r.1
  pub block : IsBlock n r.1
  pub key : m r.1 ≡ r.0
  pub colour : m (r.1 + 3) ≡ cond c 1 0

-- p leads to the tree
abbrev pub Hangs : (ℕ → ℕ) → ℕ → ℕ → Tree → Type 0
Hangs m n p leaf = p ≡ 0
Hangs m n p (node c l r t) = IsNodeOfRow m n p c r ×
    (Hangs m n (m (r.1 + 1)) l × Hangs m n (m (r.1 + 2)) t)

-- the number of times that a tree has a block
abbrev pub has : ℕ → Tree → ℕ
has x leaf = 0
has x (node c l r t) = times x (r ∷ []) + (has x l + has x t)

-- the place of the link to a child in its node's block: left for false, right for true
abbrev pub off : Bool → ℕ
off false = 1
off true = 2

-- the word that leads to the hole of a way
abbrev pub link_of : ℕ → Way → ℕ
link_of root top = root
link_of root (step right c r o w) = r.1 + off right

-- the nodes of a way and the subtrees beside it are in the memory, from the root word on
abbrev pub HangsWay : (ℕ → ℕ) → ℕ → ℕ → Way → Type 0
HangsWay m n root top = Unit {0}
HangsWay m n root (step right c r o w) = IsNodeOfRow m n (m (link_of root w)) c r ×
    (Hangs m n (m (r.1 + off (not right))) o × HangsWay m n root w)

-- the number of times that a way has a block, as a node or in a subtree beside it
abbrev pub way_has : ℕ → Way → ℕ
way_has x top = 0
way_has x (step right c r o w) = times x (r ∷ []) + (has x o + way_has x w)

-- the way and the tree at its end are in the memory; `total` counts each of their blocks, which
-- occurs at most once
pub record Zip (m : ℕ → ℕ) (n root : ℕ) (total : ℕ → ℕ) (w : Way) (t : Tree) : Type 0 where
  pub way : HangsWay m n root w
  pub tree : Hangs m n (m (link_of root w)) t
  pub count : (x : ℕ) → way_has x w + has x t ≡ total x
  pub once : (x : ℕ) → total x ≤ 1
  pub low : root < FIRST_BLOCK

-- nothing was written except the root and words 1 to 3 of these blocks
pub record Touches (m m' : ℕ → ℕ) (root : ℕ) (total : ℕ → ℕ) : Type 0 where
  pub others : (x : ℕ) → x ≢ root → ((a : ℕ) → 0 < total a → (x < a + 1) ⊎ (a + 4 ≤ x)) →
      m' x ≡ m x

-- a rotation: the child c at side s of p takes the place of p, and p becomes the child of c at the
-- other side
pub record Turning (m m' : ℕ → ℕ) (link p c s : ℕ) : Type 0 where
  pub m1 : ℕ → ℕ
  pub m2 : ℕ → ℕ
  pub inner : IsWrite m m1 (p + s) (m (c + (3 - s)))
  pub outer : IsWrite m1 m2 (c + (3 - s)) p
  pub up : IsWrite m2 m' link c

-- the counts of blocks with one block less
abbrev pub without_block : (ℕ → ℕ) → ℕ → ℕ → ℕ
without_block total b x = total x - cond (nat_eq b x) 1 0
