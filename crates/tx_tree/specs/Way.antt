-- A tree with a hole: the nodes on the way down to the hole, the last one first.
use Rattle.std.specs.Prelude.{◌≡◌, ℕ, ◌+◌, Bool, true, false, cond, [], ◌∷◌, ◌++◌}
use Rattle.tx_alloc.specs.Rows.{Rows}
use Rattle.tx_tree.specs.Tree.{Tree, join, rows, is_red, EvenAt, IsApart}

-- a step goes down to the right or to the left, and leaves the other subtree beside the way
pub data Way : Type 0 where
  top : Way
  step : (right : Bool) → (red : Bool) → (r : ℕ × ℕ) → (other : Tree) → (up : Way) → Way

-- the whole tree, with a tree in the hole
abbrev pub plug : Way → Tree → Tree
plug top t = t
plug (step right c r o w) t = plug w (join right c t r o)

-- the number of nodes above the hole
abbrev pub depth : Way → ℕ
depth top = 0
depth (step right c r o w) = depth w + 1

-- one way below another
abbrev pub under : Way → Way → Way
under top w = w
under (step right c r o v) w = step right c r o (under v w)

-- the rows in front of the hole
abbrev pub front : Way → Rows
front top = []
front (step false c r o w) = front w
front (step true c r o w) = front w ++ (rows o ++ (r ∷ []))

-- the rows after the hole
abbrev pub behind : Way → Rows
behind top = []
behind (step false c r o w) = r ∷ (rows o ++ behind w)
behind (step true c r o w) = behind w

-- a tree with h black nodes on each way down fits into the hole
abbrev pub IsEvenWay : Way → ℕ → Type 0
IsEvenWay top h = Unit {0}
IsEvenWay (step right c r o w) h = EvenAt o h × IsEvenWay w (h + cond c 0 1)

-- a tree whose root has this colour fits into the hole
abbrev pub IsApartWay : Way → Bool → Type 0
IsApartWay top red = red ≡ false
IsApartWay (step right c r o w) red = (c ≡ true → (red ≡ false) × (is_red o ≡ false)) × IsApart o
    × IsApartWay w c
