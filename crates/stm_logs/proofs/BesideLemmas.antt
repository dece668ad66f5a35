-- Nodes and places of the index, side by side.
use Rattle.std.proofs.Common.{◌≡◌, ℕ, zero, suc, ◌<◌, List, [], ◌∷◌, length, set, get_or, refl, sym, ap, ◌∙◌, arith}
use Rattle.stm_logs.specs.declared.nodes.Entry.{Entry}
use Rattle.stm_logs.specs.declared.nodes.Slot.{Slot}
use Rattle.stm_logs.specs.declared.nodes.TheConstants.{BLANK, FREE}
use Rattle.stm_logs.specs.Nodes.{Node, Block, at, blank_node, beside, bare, entry_of, with_entry, with_node}

pub len_beside : (es : List Entry) (ss : List Slot) → length es ≡ length ss → length (beside es ss) ≡ length es
len_beside [] ss e = refl
len_beside (x ∷ es) [] e = absurd (omega arith)
len_beside (x ∷ es) (s ∷ ss) e =
    let rest = len_beside es ss (omega arith) in
    omega (arith, rest)

-- what stands at a position
pub at_beside : (es : List Entry) (ss : List Slot) (i : ℕ) (x : Entry) (s : Slot) → length es ≡ length ss →
    i < length es
    → at (beside es ss) i ≡ record (bare (get_or es i x)) {
      slot = (get_or ss i s).node;
      finger = (get_or ss i s).finger;
    }
at_beside [] ss i x s e l = absurd (omega arith)
at_beside (y ∷ es) [] i x s e l = absurd (omega arith)
at_beside (y ∷ es) (t ∷ ss) zero x s e l = refl
at_beside (y ∷ es) (t ∷ ss) (suc i) x s e l = at_beside es ss i x s (omega arith) (omega arith)

pub entry_set : (es : List Entry) (ss : List Slot) (i : ℕ) (x : Entry) → length es ≡ length ss → i < length es
    → beside (set es i x) ss ≡ set (beside es ss) i (with_entry (at (beside es ss) i) x)
entry_set [] ss i x e l = absurd (omega arith)
entry_set (y ∷ es) [] i x e l = absurd (omega arith)
entry_set (y ∷ es) (t ∷ ss) zero x e l = refl
entry_set (y ∷ es) (t ∷ ss) (suc i) x e l = ap (λ (ns : List Node). record (bare y) {
  slot = t.node;
  finger = t.finger;
} ∷ ns) (entry_set es ss i x (omega arith) (omega arith))

pub slot_set : (es : List Entry) (ss : List Slot) (i : ℕ) (s : Slot) → length es ≡ length ss → i < length es
    → beside es (set ss i s) ≡ set (beside es ss) i (record (at (beside es ss) i) { slot = s.node; finger = s.finger })
slot_set [] ss i s e l = absurd (omega arith)
slot_set (y ∷ es) [] i s e l = absurd (omega arith)
slot_set (y ∷ es) (t ∷ ss) zero s e l = refl
slot_set (y ∷ es) (t ∷ ss) (suc i) s e l = ap (λ (ns : List Node). record (bare y) {
  slot = t.node;
  finger = t.finger;
} ∷ ns) (slot_set es ss i s (omega arith) (omega arith))

-- a position of the list is a place of both blocks
pub place_in : (en sn len : ℕ) (es : List Entry) (ss : List Slot) (list : List Node) (i : ℕ) → en ≡ length es →
    sn ≡ length ss → en ≡ len → sn ≡ len
    → beside es ss ≡ list → i < length list → (length es ≡ length ss) × (i < len)
place_in en sn len es ss list i e s a b is l =
    let same : length es ≡ length ss = omega arith in
    (same, omega (arith, len_beside es ss same, ap (λ (ns : List Node). length ns) is))

-- the node at a position
pub entry_here : (es : List Entry) (ss : List Slot) (list : List Node) (i : ℕ) (x : Entry) → length es ≡ length ss →
    i < length es
    → beside es ss ≡ list → get_or es i x ≡ entry_of (at list i)
entry_here es ss list i x e l is =
    sym (ap entry_of (at_beside es ss i x (record { node = 0; finger = 0 }) e l)) ∙
    ap (λ (ns : List Node). entry_of (at ns i)) is

-- the place of the index at a position
pub slot_here : (es : List Entry) (ss : List Slot) (list : List Node) (i : ℕ) (s : Slot) → length es ≡ length ss →
    i < length es
    → beside es ss ≡ list → get_or ss i s ≡ record { node = (at list i).slot; finger = (at list i).finger }
slot_here es ss list i s e l is =
    sym (ap (λ (n : Node). let t : Slot = record { node = n.slot; finger = n.finger } in
    t) (at_beside es ss i BLANK s e l))
    ∙ ap (λ (ns : List Node). let t : Slot = record { node = (at ns i).slot; finger = (at ns i).finger } in t) is

-- a node is put at a position
pub entry_put : (es : List Entry) (ss : List Slot) (n : ℕ) (b : Block) (i : ℕ) (x : Entry) (more : List Entry) →
    length es ≡ length ss → i < length es
    → record { list = beside es ss; count = n } ≡ b → more ≡ set es i x
    → record { list = beside more ss; count = n } ≡ with_node b i (with_entry (at b.list i) x)
entry_put es ss n b i x more e l is put =
    ap (λ (ns : List Node). let c : Block = record { list = ns; count = n } in
    c) (ap (λ (xs : List Entry). beside xs ss) put ∙ entry_set es ss i x e l)
    ∙ ap (λ (c : Block). with_node c i (with_entry (at c.list i) x)) is

-- a place of the index is put at a position
pub slot_put : (es : List Entry) (ss : List Slot) (n : ℕ) (b : Block) (i : ℕ) (s : Slot) (more : List Slot) →
    length es ≡ length ss → i < length es
    → record { list = beside es ss; count = n } ≡ b → more ≡ set ss i s
    → record { list = beside es more; count = n } ≡ with_node b i
    (record (at b.list i) { slot = s.node; finger = s.finger })
slot_put es ss n b i s more e l is put =
    ap (λ (ns : List Node). let c : Block = record { list = ns; count = n } in
    c) (ap (λ (xs : List Slot). beside es xs) put ∙ slot_set es ss i s e l)
    ∙ ap (λ (c : Block). with_node c i (record (at c.list i) { slot = s.node; finger = s.finger })) is

pub blank_beside : (es : List Entry) (ss : List Slot) → length es ≡ length ss → ((k : ℕ) → get_or es k BLANK ≡ BLANK) →
    ((k : ℕ) → get_or ss k FREE ≡ FREE)
    → (k : ℕ) → at (beside es ss) k ≡ blank_node
blank_beside [] ss e x s k = refl
blank_beside (y ∷ es) [] e x s k = absurd (omega arith)
blank_beside (y ∷ es) (t ∷ ss) e x s zero =
    let here : y ≡ BLANK = x 0 in
    let there : t ≡ FREE = s 0 in
    ap (λ (z : Entry). record (bare z) { slot = t.node; finger = t.finger }) here
    ∙ ap (λ (u : Slot). record (bare BLANK) { slot = u.node; finger = u.finger }) there
blank_beside (y ∷ es) (t ∷ ss) e x s (suc k) = blank_beside es ss (omega arith) (λ j. x (suc j)) (λ j. s (suc j)) k
