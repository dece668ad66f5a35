-- The nodes of a write log as a chain in their order.
use Rattle.std.specs.Prelude.{◌≡◌, ℕ, ◌<◌, cond, Bool, ◌&&◌, not, Option, Some, None, List, [], ◌∷◌, length, nat_eq}
use Prim.Native.Nat.{zero, suc}
use Rattle.std.specs.Borrow.{Bor}
use Rattle.stm_logs.specs.Nodes.{Node, Block, at}

-- the chain from p on ends within `most` nodes, and all its nodes are in the block
abbrev pub EndsWithin : List Node → ℕ → ℕ → Type 0
EndsWithin ns zero p = p ≡ 0
EndsWithin ns (suc most) p = 0 < p → (p < length ns) × EndsWithin ns most (at ns p).next

abbrev pub pair_of : Node → ℕ × ℕ
pair_of node = (node.number, node.value)

-- true if there is a node at p, and it has the lock
abbrev pub goes_on : List Node → ℕ → ℕ → Bool
goes_on ns lock p = not (nat_eq p 0) && nat_eq (at ns p).lock lock

-- the words of the lock, with their values, at the beginning of the chain from p on; at most
-- `most` nodes are looked at
abbrev pub words_from : List Node → ℕ → ℕ → ℕ → List (ℕ × ℕ)
words_from ns lock zero p = []
words_from ns lock (suc most) p =
    cond (goes_on ns lock p) (pair_of (at ns p) ∷ words_from ns lock most (at ns p).next) []

-- the locks of a chain of at most `most` nodes, each once if the nodes of a lock are side by side
abbrev pub locks_from : List Node → ℕ → ℕ → List ℕ
locks_from ns zero p = []
locks_from ns (suc most) p =
    let lock = (at ns p).lock in
    let next = (at ns p).next in
    let rest = locks_from ns most next in
    cond (nat_eq p 0) [] (cond (goes_on ns lock next) rest (lock ∷ rest))

-- the words of a chain of at most `most` nodes, with their values
abbrev pub pairs_from : List Node → ℕ → ℕ → List (ℕ × ℕ)
pairs_from ns zero p = []
pairs_from ns (suc most) p =
    cond (nat_eq p 0) [] (pair_of (at ns p) ∷ pairs_from ns most (at ns p).next)

-- the words of the lock at the beginning of a chain in the block; none if there is no block
abbrev pub words_in : Option (Bor Block) → ℕ → ℕ → ℕ → List (ℕ × ℕ)
words_in None lock most p = []
words_in (Some block) lock most p = words_from block.now.list lock most p

abbrev pub locks_in : Option (Bor Block) → ℕ → ℕ → List ℕ
locks_in None most p = []
locks_in (Some block) most p = locks_from block.now.list most p

abbrev pub pairs_in : Option (Bor Block) → ℕ → ℕ → List (ℕ × ℕ)
pairs_in None most p = []
pairs_in (Some block) most p = pairs_from block.now.list most p

abbrev pub EndsIn : Option (Bor Block) → ℕ → ℕ → Type 0
EndsIn None most p = Unit {0}
EndsIn (Some block) most p = EndsWithin block.now.list most p
