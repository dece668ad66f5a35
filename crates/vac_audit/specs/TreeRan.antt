-- The relation between the definition of a table's walk and the running walk.
use Rattle.std.specs.Prelude.{◌≡◌, ℕ, ◌+◌, ◌*◌, ◌≤◌, ◌<◌, ◌⊎◌, Bool, true, false, cond, List, [], ◌∷◌, ◌++◌, length, suc, Some, None, Result, Ok, Err, MatchResult, slice_index, nat_eq, sum_by, ⊤}
use Rattle.tx_alloc.specs.Pool.{held, IsBlock}
use Rattle.tx_alloc.specs.declared.place.TheConstants.{MOST_BLOCKS}
use Rattle.tx_alloc.specs.Rows.{Rows}
use Rattle.vac_model.specs.declared.items.Kind.{Kind}
use Rattle.vac_model.specs.declared.limits.TheConstants.{MOST_TOTAL}
use Rattle.vac_model.specs.State.{kind_number}
use Rattle.vac_records.specs.Heap.{over}
use Rattle.vac_audit.specs.Tree.{Tree, leaf, blacks, is_red}
use Rattle.vac_audit.specs.Walk.{Seen, Look, is_item, is_key, is_coloured, look_at_item, look_at_customer, walk_table, units_in}
use Rattle.vac_audit.specs.Noted.{booked_in, codes_in, noted_of}
use Rattle.vac_audit.specs.Marks.{Marks, Followed, IsIndex, Counting, SameItems, unmarked}
use Rattle.vac_audit.specs.declared.Flaw.{Flaw}
use Rattle.vac_audit.specs.declared.Flaw.TheVariants.{Shared, Counts, Order, Colour}
use Rattle.vac_audit.specs.declared.notes.Notes.{Notes}
use Rattle.vac_audit.specs.declared.notes.Tally.{Tally}
use Rattle.vac_audit.specs.declared.tree.Fault.{Fault}
use Rattle.vac_audit.specs.declared.tree.Fault.TheVariants.{Memory, Found}
use Rattle.vac_audit.specs.declared.tree.Side.{Side}
use Rattle.vac_audit.specs.declared.tree.Step.{Step}
use Rattle.vac_audit.specs.declared.tree.Step.TheVariants.{Left}
use Rattle.vac_audit.specs.declared.tree.Table.{Table}
use Rattle.vac_audit.specs.declared.tree.Table.TheVariants.{Items, Customers}
use Rattle.vac_audit.specs.declared.tree.Turn.{Turn}
use Rattle.vac_audit.specs.declared.tree.Turn.TheVariants.{Down, Up}

-- the counts of the item in node p are consistent, or they are the flaw
abbrev pub ItemLooked : List ℕ → ℕ → Result ⊤ Flaw → Type 0
ItemLooked words p result = MatchResult result
    (λ _. is_item (slice_index words) p ≡ true)
    (λ flaw. (is_item (slice_index words) p ≡ false) × (flaw ≡ Counts (p + 4)))

-- the side has the number of black nodes and the root colour of the tree
pub record IsSide (side : Side) (t : Tree) : Type 0 where
  pub blacks : side.blacks ≡ blacks t
  pub red : side.red ≡ is_red t

-- the colour of a node with these sides was tested; the result is the side that the node is the
-- root of
abbrev pub ColourLooked : List ℕ → ℕ → Side → Side → Result Side Flaw → Type 0
ColourLooked words p left right result =
    (l t : Tree) → IsSide left l → IsSide right t → MatchResult result
    (λ side. (is_coloured (slice_index words (p + 3)) l t ≡ true)
    × (side.blacks ≡ blacks l + cond (nat_eq (slice_index words (p + 3)) 1) 0 1)
    × (side.red ≡ nat_eq (slice_index words (p + 3)) 1))
    (λ flaw. (is_coloured (slice_index words (p + 3)) l t ≡ false) × (flaw ≡ Colour (p + 3)))

-- the key of a node was tested against the least key lo; the result is the least key that may
-- follow
abbrev pub KeyLooked : List ℕ → ℕ → ℕ → Result ℕ Flaw → Type 0
KeyLooked words p lo result = MatchResult result
    (λ next. (is_key (slice_index words) p lo ≡ true) × (next ≡ slice_index words p + 1))
    (λ flaw. (is_key (slice_index words) p lo ≡ false) × (flaw ≡ Order p))

-- the root of a tree was tested: it is black, or the flaw is at the colour of the block to which
-- the root word points
abbrev pub RootLooked : List ℕ → ℕ → Side → Result ⊤ Flaw → Type 0
RootLooked words root side result = MatchResult result
    (λ _. side.red ≡ false)
    (λ flaw. (side.red ≡ true) × (slice_index words root + 8 ≤ length words →
    flaw ≡ Colour (slice_index words root + 3)))

-- the walk ended with a flaw that satisfies P, or memory was refused, which may happen at any time
abbrev pub Faulted : Fault → (Flaw → Type 0) → Type 0
Faulted Memory P = Unit {0}
Faulted (Found flaw) P = P flaw

-- the pointer in word `at` is the end, and its tree is walked
pub record EndedTree (words : List ℕ) (marks marks' : List Bool) (path path' : List Step) (at : ℕ)
    (side : Side) : Type 0 where
  pub empty : IsSide side leaf
  pub same : path' ≡ path
  pub as_many : unmarked marks' ≡ unmarked marks
  pub followed : Followed words marks marks' at (Ok None)

-- the pointer in word `at` leads to a node, now the last of the path; the node's left pointer is
-- in word `next`
pub record EnteredNode (words : List ℕ) (marks marks' : List Bool) (path path' : List Step)
    (at next : ℕ) : Type 0 where
  pub node : ℕ
  pub block : IsBlock (length words) node
  pub left : next ≡ node + 1
  pub longer : path' ≡ path ++ (Left node ∷ [])
  pub fewer : unmarked marks' + 1 ≡ unmarked marks
  pub followed : Followed words marks marks' at (Ok (Some node))

-- the pointer led down to a node, or was the end
abbrev pub WentDown : List ℕ → List Bool → List Bool → List Step → List Step → ℕ → Turn → Type 0
WentDown words marks marks' path path' at (Down next) =
    EnteredNode words marks marks' path path' at next
WentDown words marks marks' path path' at (Up side) =
    EndedTree words marks marks' path path' at side

-- the path has more nodes than there are blocks, or following the pointer has this flaw
abbrev pub DownFlaw : List ℕ → List Bool → List Bool → List Step → ℕ → Flaw → Type 0
DownFlaw words marks marks' path at flaw =
    ((length marks < length path) × (flaw ≡ Shared at))
    ⊎ ((length path ≤ length marks) × Followed words marks marks' at (Err flaw))

-- the walk followed the pointer in word `at` downwards
abbrev pub DownRan : List ℕ → List Bool → List Bool → List Step → List Step → ℕ →
    Result Turn Fault → Type 0
DownRan words marks marks' path path' at result = MatchResult result
    (λ turn. (length path ≤ length marks) × WentDown words marks marks' path path' at turn)
    (λ fault. Faulted fault (λ flaw. DownFlaw words marks marks' path at flaw))

-- the definition's tests of a node of this table besides its key
abbrev pub look_of : (ℕ → ℕ) → ℕ → (ℕ → Rows) → ℕ → Table → Look
look_of m n tables levels (Items kind) = look_at_item m
look_of m n tables levels Customers = look_at_customer m n tables levels

-- if customers are walked, the items in the notes are those of these tables
abbrev pub Indexed : Table → Notes → (ℕ → Rows) → Type 0
Indexed (Items kind) notes tables = Unit {0}
Indexed Customers notes tables = IsIndex (codes_in notes.items.items) tables

-- the items of these rows were added to the notes
pub record ItemsNoted (m : ℕ → ℕ) (kind : Kind) (notes notes' : Notes) (rs : Rows) : Type 0 where
  pub items : notes'.items.items ≡ notes.items.items ++ noted_of (kind_number kind) rs
  pub used : notes'.tally.used ≡ notes.tally.used + sum_by (λ r. m (r.1 + 4)) rs
  pub free : notes'.tally.free ≡ notes.tally.free + sum_by (λ r. m (r.1 + 5)) rs
  pub total : notes'.tally.total ≡ notes.tally.total + sum_by (λ r. m (r.1 + 6)) rs
  pub bookings : notes'.tally.bookings ≡ notes.tally.bookings
  pub billed : notes'.tally.billed ≡ notes.tally.billed

-- the bookings of these customers were counted into the notes
pub record CustomersNoted (m : ℕ → ℕ) (notes notes' : Notes) (rs : Rows) (lists : ℕ → Rows) :
    Type 0 where
  pub items : SameItems notes notes'
  pub booked : (i : ℕ) → i < length notes.items.items →
      slice_index (booked_in notes'.items.items) i ≡ slice_index (booked_in notes.items.items) i
      + over (units_in m (slice_index (codes_in notes.items.items) i)) rs lists
  pub bookings :
      notes'.tally.bookings ≡ notes.tally.bookings + over (sum_by (λ r. m (r.1 + 4))) rs lists
  pub billed :
      notes'.tally.billed ≡ notes.tally.billed + over (sum_by (λ r. m (r.1 + 2))) rs lists

-- the rows of this table were added to the notes
abbrev pub Noted : Table → (ℕ → ℕ) → Notes → Notes → Rows → (ℕ → Rows) → Type 0
Noted (Items kind) m notes notes' rs lists = ItemsNoted m kind notes notes' rs
Noted Customers m notes notes' rs lists = CustomersNoted m notes notes' rs lists

-- the sums are at most those of this many items with the largest total
pub record Summed (tally : Tally) (items : ℕ) : Type 0 where
  pub used : tally.used ≤ MOST_TOTAL * items
  pub free : tally.free ≤ MOST_TOTAL * items
  pub total : tally.total ≤ MOST_TOTAL * items

-- the notes leave room for a walk of this table that reaches this many more blocks
abbrev pub Ready : Table → Notes → ℕ → Type 0
Ready (Items kind) notes left = Summed notes.tally (length notes.items.items)
Ready Customers notes left = Counting notes left

-- the notes have room for this many more items
abbrev pub HasRoomForItems : Table → Notes → ℕ → Type 0
HasRoomForItems (Items kind) notes left = length notes.items.items + left ≤ MOST_BLOCKS
HasRoomForItems Customers notes left = Unit {0}

-- a node of a table of items added one item to the notes
abbrev pub Pushed : Table → Notes → Notes → Type 0
Pushed (Items kind) notes notes' = length notes'.items.items ≡ length notes.items.items + 1
Pushed Customers notes notes' = Unit {0}

-- the definition's tests of a node of these words besides its key, with one level more than blocks
abbrev pub node_look : List ℕ → ℕ → (ℕ → Rows) → Table → Look
node_look words blocks tables table =
    look_of (slice_index words) (length words) tables (suc blocks) table

-- the definition's walk of this table of these words, with one level more than blocks
abbrev pub table_walk : List ℕ → ℕ → (ℕ → Rows) → Table → ℕ → Seen → Result (Rows × Seen) Flaw
table_walk words blocks tables table root s =
    walk_table (slice_index words) (length words) (node_look words blocks tables table)
    (suc blocks) root s

-- a node was tested and noted, as in the definition
pub record NodeLooked (words : List ℕ) (marks marks' : List Bool) (notes notes' : Notes)
    (table : Table) (p : ℕ) (look : Look) (s : Seen) : Type 0 where
  pub s' : Seen
  pub is : look p s ≡ Ok s'
  pub are : Marks marks' s'.blocks
  pub noted :
      Noted table (slice_index words) notes notes' ((slice_index words p, p) ∷ []) s'.lists
  pub kept : (q : ℕ) → (q ≡ p → ⊥) → s'.lists q ≡ s.lists q
  pub more : (q : ℕ) → held q s.blocks ≤ held q s'.blocks

-- a node was tested; a flaw that was found in it is the one that the definition finds
abbrev pub LookRan : List ℕ → List Bool → List Bool → Notes → Notes → Table → ℕ →
    Result ⊤ Fault → Type 0
LookRan words marks marks' notes notes' table p result =
    (tables : ℕ → Rows) → Indexed table notes tables →
    (s : Seen) → Marks marks s.blocks → MatchResult result
    (λ _. NodeLooked words marks marks' notes notes' table p
    (node_look words (length marks) tables table) s)
    (λ fault. Faulted fault (λ flaw.
    node_look words (length marks) tables table p s ≡ Err flaw))

-- a table was walked: the result, the marks and the notes are those of the definition
abbrev pub TableRan : List ℕ → List Bool → List Bool → Notes → Notes → Table → ℕ →
    Result ℕ Fault → Type 0
TableRan words marks marks' notes notes' table root result =
    (tables : ℕ → Rows) → Indexed table notes tables →
    (s : Seen) → Marks marks s.blocks → MatchResult result
    (λ nodes. (x : Rows × Seen)
    × ((table_walk words (length marks) tables table root s ≡ Ok x)
    × Marks marks' x.1.blocks × (nodes ≡ length x.0)
    × Noted table (slice_index words) notes notes' x.0 x.1.lists))
    (λ fault. Faulted fault (λ flaw.
    table_walk words (length marks) tables table root s ≡ Err flaw))
