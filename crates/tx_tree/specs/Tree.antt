-- Red-black trees of pairs (key, block).
use Rattle.std.specs.Prelude.{◌≡◌, ℕ, ◌+◌, Bool, true, false, cond, max, [], ◌∷◌, ◌++◌}
use Rattle.tx_alloc.specs.Rows.{Rows}

-- a node has a colour, a left subtree, a row, and a right subtree
pub data Tree : Type 0 where
  leaf : Tree
  node : (red : Bool) → (l : Tree) → (r : ℕ × ℕ) → (t : Tree) → Tree

-- a node whose subtrees are given as the near and the far one: the near one is the left subtree
-- for false, the right subtree for true
abbrev pub join : Bool → Bool → Tree → ℕ × ℕ → Tree → Tree
join false c near r far = node c near r far
join true c near r far = node c far r near

-- the rows in order
abbrev pub rows : Tree → Rows
rows leaf = []
rows (node c l r t) = rows l ++ (r ∷ rows t)

-- the number of black nodes on the leftmost way down
abbrev pub blacks : Tree → ℕ
blacks leaf = 0
blacks (node c l r t) = blacks l + cond c 0 1

-- all ways down have the same number of black nodes
abbrev pub IsEven : Tree → Type 0
IsEven leaf = Unit {0}
IsEven (node c l r t) = (blacks l ≡ blacks t) × IsEven l × IsEven t

-- each way down has h black nodes
abbrev pub EvenAt : Tree → ℕ → Type 0
EvenAt t h = IsEven t × (blacks t ≡ h)

-- true if there is a root and it is red
abbrev pub is_red : Tree → Bool
is_red leaf = false
is_red (node c l r t) = c

-- no red node has a red child
abbrev pub IsApart : Tree → Type 0
IsApart leaf = Unit {0}
IsApart (node c l r t) = (c ≡ true → (is_red l ≡ false) × (is_red t ≡ false)) × IsApart l ×
    IsApart t

-- the number of nodes on the longest way down
abbrev pub height : Tree → ℕ
height leaf = 0
height (node c l r t) = 1 + max (height l) (height t)
