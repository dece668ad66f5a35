-- The nodes of a write log, as a list: the root first, then the written words in the order in
-- which they entered. Beside each node stands a place of the index.
use Rattle.std.specs.Prelude.{◌≡◌, ℕ, Bool, cond, List, [], ◌∷◌, length, slice_index_or, slice_set}
use Rattle.stm_logs.specs.declared.nodes.Entry.{Entry}
use Rattle.stm_logs.specs.declared.nodes.Slot.{Slot}
use Rattle.stm_logs.specs.declared.nodes.TheConstants.{TOP}

-- the contents of a position: a node, and a place of the index with its finger
pub record Node : Type 0 where
  pub value : ℕ
  pub number : ℕ
  pub lock : ℕ
  pub next : ℕ
  pub place : ℕ
  pub slot : ℕ
  pub finger : ℕ

-- a position to which nothing was written
abbrev pub blank_node : Node
blank_node = record {
  value = 0;
  number = TOP;
  lock = TOP;
  next = 0;
  place = 0;
  slot = 0;
  finger = 0;
}

-- the node of a position, without its place of the index
abbrev pub entry_of : Node → Entry
entry_of n = record {
  value = n.value;
  number = n.number;
  lock = n.lock;
  next = n.next;
  place = n.place;
}

-- the position with another node and the same place of the index
abbrev pub with_entry : Node → Entry → Node
with_entry n e = record {
  value = e.value;
  number = e.number;
  lock = e.lock;
  next = e.next;
  place = e.place;
  slot = n.slot;
  finger = n.finger;
}

-- a position with the node and a place of the index that leads nowhere
abbrev pub bare : Entry → Node
bare e = with_entry blank_node e

abbrev pub with_slot : Node → ℕ → Node
with_slot n slot = record n { slot = slot }

abbrev pub with_next : Node → ℕ → Node
with_next node next = record node { next = next }

abbrev pub with_finger : Node → ℕ → Node
with_finger node finger = record node { finger = finger }

-- the finger of the position if it is kept, otherwise 0
abbrev pub kept_finger : Bool → Node → ℕ
kept_finger keeps node = cond keeps node.finger 0

-- the positions of some nodes and some places of the index, paired in order
abbrev pub beside : List Entry → List Slot → List Node
beside [] slots = []
beside (e ∷ es) [] = []
beside (e ∷ es) (s ∷ slots) =
    record (bare e) { slot = s.node; finger = s.finger } ∷ beside es slots

-- the position with this number
abbrev pub at : List Node → ℕ → Node
at nodes e = slice_index_or nodes e blank_node

-- a block of positions: their contents, and the number of nodes besides the root
pub record Block : Type 0 where
  pub list : List Node
  pub count : ℕ

-- the block with another position e
abbrev pub with_node : Block → ℕ → Node → Block
with_node b e node = record b { list = slice_set b.list e node }

-- a block with `len` blank positions
abbrev pub IsBlank : Block → ℕ → Type 0
IsBlank b len =
    (length b.list ≡ len) × (b.count ≡ 0) × ((k : ℕ) → at b.list k ≡ blank_node)
