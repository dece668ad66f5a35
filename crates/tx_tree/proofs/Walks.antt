-- A walk over a table: its stack holds the rows that are still to come.
use Rattle.std.proofs.Common.{◌≡◌, ◌≢◌, ℕ, ◌+◌, ◌-◌, ◌<◌, ◌≤◌, List, [], ◌∷◌, ◌++◌, length, zero, suc, slice_index}
use Rattle.std.proofs.Common.{Some, None, add-one}
use Rattle.std.proofs.Common.{slice_set, refl, sym, ap, ◌∙◌, subst, arith, append_assoc, append-nil, get_or-set_same}
use Rattle.std.proofs.Common.{get_or-set_other}
use Rattle.tx_memory.specs.Seen.{some_le}
use Rattle.tx_memory.specs.View.{View, Sees, RestsOn, Kept}
use Rattle.tx_alloc.specs.Pointer.{LeadsToBlock}
use Rattle.tx_alloc.specs.Rows.{Rows}
use Rattle.tx_alloc.specs.Steps.{mem, kept_none, kept_both, stood, at_start}
use Rattle.tx_tree.specs.declared.walk.Walk.{Walk}
use Rattle.tx_tree.specs.Tree.{Tree, node, rows, height}
use Rattle.tx_tree.specs.Hangs.{Hangs}
use Rattle.tx_tree.specs.Steps.{Reached}
use Rattle.tx_tree.specs.Table.{Table, HasTable}
use Rattle.tx_tree.specs.Walk.{OnTop, Ahead, Leads, HasWalk, LeadsOn, Descended, Begun, Stepped}
use Rattle.tx_tree.specs.Walk.{first_block}
use Rattle.tx_tree.proofs.Moves.{Opened, opened, pointer, no_tree}
use Rattle.tx_tree.proofs.Seeking.{low_tree}

-- an empty stack leads from the root word to all rows
root_leads : (m : ℕ → ℕ) (n root : ℕ) (nodes : List ℕ) (rs : Rows) → Table m n root rs →
    Leads m n (record { nodes = nodes; depth = 0 }) root rs
root_leads m n root nodes rs t = record {
  tree = t.table.tree;
  rest = [];
  hangs = t.table.hangs;
  room = low_room;
  is = sym t.table.is ∙ sym (append-nil (rows t.table.tree));
  ahead = refl;
} where
  low_room : 0 + height t.table.tree ≤ 40
  low_room =
      let low = low_tree t.table.tree t.table.even t.table.apart t.table.black (rw t.table.is t.few) in
      omega arith

pub begins : (s : View) (root : ℕ) (nodes : List ℕ) → HasTable s root →
    LeadsOn s (record { nodes = nodes; depth = 0 }) root
begins s root nodes has = record {
  small = has.small;
  low = omega (arith, has.low, has.room);
  under = λ image i.
      let t = has.under image i in
      (t.entries, root_leads (mem s image) (length image) root nodes t.entries t.is);
}

pub begun : (s s' : View) (root : ℕ) (nodes : List ℕ) (walk : Walk) →
    Descended s s' (record { nodes = nodes; depth = 0 }) root walk → Begun s s' root walk
begun s s' root nodes walk d = record {
  kept = d.kept;
  writes = d.writes;
  is = λ image rs i t. d.is image rs i (root_leads (mem s image) (length image) root nodes rs t);
}

-- a node written above the stack leaves the stack as it is
ahead_set : (m : ℕ → ℕ) (n : ℕ) (nodes : List ℕ) (d i v : ℕ) (rs : Rows) → d ≤ i → Ahead m n nodes d rs →
    Ahead m n (slice_set nodes i v) d rs
ahead_set m n nodes zero i v rs l h = h
ahead_set m n nodes (suc d) i v rs l h =
    let same : slice_index (slice_set nodes i v) d ≡ slice_index nodes d =
    get_or-set_other nodes i d v 0 (omega arith) in
    (h.0, (rw same h.1.0, ahead_set m n nodes d i v h.0 (omega arith) h.1.1))

-- a stack that is not empty has a node on top
pub on_top : (m : ℕ → ℕ) (n : ℕ) (nodes : List ℕ) (d : ℕ) (rs : Rows) → Ahead m n nodes d rs → d ≢ 0 →
    (rest : Rows) × (OnTop m n (slice_index nodes (d - 1)) (d - 1) rs rest × Ahead m n nodes (d - 1) rest)
on_top m n nodes zero rs h ne = absurd (ne refl)
on_top m n nodes (suc d) rs h ne = let e : suc d - 1 ≡ d = omega arith in rw e h

-- so far in the way down: what the link led to at first, and then the walk, is what the link leads to now
pub record Going (s s' : View) (walk : Walk) (link : ℕ) (walk' : Walk) (link' : ℕ) : Type 0 where
  pub kept : Kept s s'
  pub writes : s'.writes ≡ s.writes
  pub low : link' < s'.size
  pub is : (image : List ℕ) (rs : Rows) → Sees s' image → Leads (mem s image) (length image) walk link rs →
      Leads (mem s image) (length image) walk' link' rs

pub going_start : (s : View) (walk : Walk) (link : ℕ) → LeadsOn s walk link → Going s s walk link walk link
going_start s walk link h = record {
  kept = kept_none s;
  writes = refl;
  low = h.low;
  is = λ image rs i l. l;
}

pub going_leads : (s s' : View) (walk : Walk) (link : ℕ) (walk' : Walk) (link' : ℕ) → LeadsOn s walk link →
    Going s s' walk link walk' link' → LeadsToBlock s' link'
going_leads s s' walk link walk' link' h g = record {
  small = omega (arith, h.small, g.kept.size);
  room = g.low;
  under = λ image i ne.
      let x = h.under image (stood g.kept image i) in
      let l = g.is image x.0 i.sees x.1 in
      rw g.writes (pointer (mem s image) (length image) (mem s image link') l.tree l.hangs (rw g.writes at ne));
}

some_node : (m : ℕ → ℕ) (n p : ℕ) (t : Tree) → Hangs m n p t → p ≢ 0 → 1 ≤ height t
some_node m n p t h ne = let o = opened m n p t h ne in rw o.is (omega arith)

-- the stack has room for the node
pub going_room : (s s' s'' : View) (walk : Walk) (link : ℕ) (walk' : Walk) (link' p : ℕ) → LeadsOn s walk link →
    Going s s' walk link walk' link' → Reached s' s'' link' p → p ≢ 0 →
    ∥ ((image : List ℕ) × RestsOn s'' image) ∥₁ → walk'.depth + 1 ≤ 40
going_room s s' s'' walk link walk' link' p h g r ne ws = some_le (walk'.depth + 1) 40 ws (λ w.
    let i = stood r.loaded.kept w.0 w.1 in
    let x = h.under w.0 (stood g.kept w.0 i) in
    let l = g.is w.0 x.0 i.sees x.1 in
    let e : mem s w.0 link' ≡ p = at_start s s' s'' link' p g.writes r.loaded w.0 w.1.sees in
    let some = some_node (mem s w.0) (length w.0) (mem s w.0 link') l.tree l.hangs (λ z. ne (sym e ∙ z)) in
    omega (arith, l.room, some))

-- the stack with one node more
abbrev pub pushed : Walk → ℕ → Walk
pushed walk p = record { nodes = slice_set walk.nodes walk.depth p; depth = walk.depth + 1 }

push_node : (m : ℕ → ℕ) (n : ℕ) (walk : Walk) (link p : ℕ) (rs : Rows) (l : Leads m n walk link rs) → m link ≡ p →
    length walk.nodes ≡ 40 → walk.depth + 1 ≤ 40 → Opened m n p l.tree → Leads m n (pushed walk p) (p + 1) rs
push_node m n walk link p rs l e size low o =
    let hangs : Hangs m n p (node o.colour o.left (m p, p) o.right) = rw (e, o.is) at l.hangs in
    let deep : walk.depth + height (node o.colour o.left (m p, p) o.right) ≤ 40 = rw o.is at l.room in
    let is : rs ≡ rows (node o.colour o.left (m p, p) o.right) ++ l.rest = rw o.is at l.is in
    let there : slice_index (slice_set walk.nodes walk.depth p) walk.depth ≡ p =
    get_or-set_same walk.nodes walk.depth p 0 (omega arith) in
    record {
      tree = o.left;
      rest = (m p, p) ∷ (rows o.right ++ l.rest);
      hangs = hangs.1.0;
      room = omega arith;
      is = is ∙ append_assoc (rows o.left) ((m p, p) ∷ rows o.right) l.rest;
      ahead = subst (λ (d : ℕ). Ahead m n (slice_set walk.nodes walk.depth p) d ((m p, p) ∷ (rows o.right ++ l.rest)))
          (sym (add-one walk.depth)) (
            l.rest,
            (
              rw there (record {
                right = o.right;
                block = o.block;
                hangs = hangs.1.1;
                room = omega arith;
                is = refl;
              }),
              ahead_set m n walk.nodes walk.depth walk.depth p l.rest (omega arith) l.ahead,
            ),
          );
    }

pub going_down : (s s' s'' : View) (walk : Walk) (link : ℕ) (walk' : Walk) (link' p : ℕ) →
    Going s s' walk link walk' link' → Reached s' s'' link' p → p ≢ 0 → length walk'.nodes ≡ 40 →
    walk'.depth + 1 ≤ 40 → Going s s'' walk link (pushed walk' p) (p + 1)
going_down s s' s'' walk link walk' link' p g r ne size low = record {
  kept = kept_both s s' s'' g.kept r.loaded.kept;
  writes = r.loaded.writes ∙ g.writes;
  low = (let at = r.room ne in omega (arith, at.1));
  is = λ image rs i first.
      let l = g.is image rs (r.loaded.kept.seen image i) first in
      let e : mem s image link' ≡ p = at_start s s' s'' link' p g.writes r.loaded image i in
      push_node (mem s image) (length image) walk' link' p rs l e size low
      (opened (mem s image) (length image) p l.tree (rw e at l.hangs) ne);
}

pub descended : (s s' s'' : View) (walk : Walk) (link : ℕ) (walk' : Walk) (link' p : ℕ) →
    Going s s' walk link walk' link' → Reached s' s'' link' p → p ≡ 0 → Descended s s'' walk link walk'
descended s s' s'' walk link walk' link' p g r z = record {
  kept = kept_both s s' s'' g.kept r.loaded.kept;
  writes = r.loaded.writes ∙ g.writes;
  is = λ image rs i first.
      let l = g.is image rs (r.loaded.kept.seen image i) first in
      let e : mem s image link' ≡ 0 = at_start s s' s'' link' p g.writes r.loaded image i ∙ z in
      let none = no_tree (mem s image) (length image) (mem s image link') l.tree l.hangs e in
      let is : rs ≡ l.rest = l.is ∙ ap (λ (t : Tree). rows t ++ l.rest) none in
      rw is l.ahead;
}

-- the walk without the node on top
abbrev pub popped : Walk → Walk
popped walk = record { nodes = walk.nodes; depth = walk.depth - 1 }

-- the node on top
abbrev pub top_of : Walk → ℕ
top_of walk = slice_index walk.nodes (walk.depth - 1)

right_leads : (m : ℕ → ℕ) (n : ℕ) (walk : Walk) (rs rest : Rows) →
    (t : OnTop m n (top_of walk) (walk.depth - 1) rs rest) → Ahead m n walk.nodes (walk.depth - 1) rest →
    Leads m n (popped walk) (top_of walk + 2) (rows t.right ++ rest)
right_leads m n walk rs rest t below = record {
  tree = t.right;
  rest = rest;
  hangs = t.hangs;
  room = omega (arith, t.room);
  is = refl;
  ahead = below;
}

-- the node on top is a node of the memory, and the stack is no deeper than there is room for
pub record TopInside (s : View) (walk : Walk) : Type 0 where
  pub low : 16 ≤ top_of walk
  pub high : top_of walk + 8 ≤ s.size
  pub deep : walk.depth ≤ 40

pub top_inside : (s : View) (walk : Walk) → HasWalk s walk → walk.depth ≢ 0 →
    ∥ ((image : List ℕ) × RestsOn s image) ∥₁ → TopInside s walk
top_inside s walk h ne ws = record {
  low = some_le 16 (top_of walk) ws (λ w. omega (arith, (top w.0 w.1).1.0.block.1.1));
  high = some_le (top_of walk + 8) s.size ws (λ w. omega (arith, (top w.0 w.1).1.0.block.1.0, w.1.size));
  deep = some_le walk.depth 40 ws (λ w. omega (arith, (top w.0 w.1).1.0.room));
} where
  top : (image : List ℕ) (i : RestsOn s image) → (rest : Rows) ×
      (OnTop (mem s image) (length image) (top_of walk) (walk.depth - 1) (h.under image i).0 rest ×
      Ahead (mem s image) (length image) walk.nodes (walk.depth - 1) rest)
  top image i = let x = h.under image i in
      on_top (mem s image) (length image) walk.nodes walk.depth x.0 x.1 ne

pub leads_right : (s : View) (walk : Walk) → HasWalk s walk → walk.depth ≢ 0 → TopInside s walk →
    LeadsOn s (popped walk) (top_of walk + 2)
leads_right s walk h ne inside = record {
  small = h.small;
  low = omega (arith, inside.high);
  under = λ image i.
      let x = h.under image i in
      let t = on_top (mem s image) (length image) walk.nodes walk.depth x.0 x.1 ne in
      (rows t.1.0.right ++ t.0, right_leads (mem s image) (length image) walk x.0 t.0 t.1.0 t.1.1);
}

pub stepped : (s s' : View) (walk walk' : Walk) → walk.depth ≢ 0 → TopInside s walk →
    Descended s s' (popped walk) (top_of walk + 2) walk' → Stepped s s' walk walk' (Some (top_of walk))
stepped s s' walk walk' ne inside d = record {
  kept = d.kept;
  writes = d.writes;
  inside = (inside.low, omega (arith, inside.high, d.kept.size));
  is = λ image rs i h.
      let t = on_top (mem s image) (length image) walk.nodes walk.depth rs h ne in
      let rest = d.is image (rows t.1.0.right ++ t.0) i
      (right_leads (mem s image) (length image) walk rs t.0 t.1.0 t.1.1) in
      (ap first_block t.1.0.is, rw t.1.0.is rest);
}

-- an empty stack has no rows
nothing : (m : ℕ → ℕ) (n : ℕ) (nodes : List ℕ) (d : ℕ) (rs : Rows) → Ahead m n nodes d rs → d ≡ 0 → rs ≡ []
nothing m n nodes zero rs h e = h
nothing m n nodes (suc d) rs h e = absurd (omega arith)

pub ended : (s : View) (walk : Walk) → walk.depth ≡ 0 → Stepped s s walk walk None
ended s walk z = record {
  kept = kept_none s;
  writes = refl;
  inside = tt;
  is = λ image rs i h.
      let none = nothing (mem s image) (length image) walk.nodes walk.depth rs h z in
      (ap first_block none, rw none (rw none at h));
}
