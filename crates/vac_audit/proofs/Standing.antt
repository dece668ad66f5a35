-- The state of the code's walk of a table, and the work that remains.
use Rattle.std.proofs.Common.{◌≡◌, ◌≢◌, ◌⊎◌, inl, inr, ℕ, ◌+◌, ◌<◌, ◌≤◌, Bool, true, false, cond, List, []}
use Rattle.std.proofs.Common.{◌∷◌, ◌++◌, length, suc, refl, sym, ap, ◌∙◌, subst, arith, nat_eq, length-append}
use Rattle.std.specs.Prelude.{Result, Ok, Err, slice_index}
use Rattle.std.proofs.lemmas.Bool.Decides.{nat_tests}
use Rattle.tx_memory.specs.Seen.{same_or}
use Rattle.tx_alloc.specs.Pool.{IsBlock, held}
use Rattle.tx_alloc.specs.Rows.{Rows, times}
use Rattle.vac_audit.specs.Tree.{Tree, rows}
use Rattle.vac_audit.specs.Walk.{Seen, Look, follow, above, is_key, walk_tree, walk_table}
use Rattle.vac_audit.specs.Marks.{Marks, IsIndex, unmarked}
use Rattle.vac_audit.specs.TreeRan.{IsSide}
use Rattle.vac_audit.specs.TreeRan.{Noted, Indexed, Ready, HasRoomForItems, Pushed, look_of}
use Rattle.vac_audit.specs.declared.Flaw.{Flaw}
use Rattle.vac_audit.specs.declared.notes.Notes.{Notes}
use Rattle.vac_audit.specs.declared.tree.Step.{Step}
use Rattle.vac_audit.specs.declared.tree.Step.TheVariants.{Left, Right}
use Rattle.vac_audit.specs.declared.tree.Table.{Table}
use Rattle.vac_audit.specs.declared.tree.Table.TheVariants.{Items, Customers}
use Rattle.vac_audit.specs.declared.tree.Turn.{Turn}
use Rattle.vac_audit.specs.declared.tree.Turn.TheVariants.{Down, Up}
use Rattle.vac_audit.proofs.Over.{times_append}
use Rattle.vac_audit.proofs.Running.{then_err}
use Rattle.vac_audit.proofs.Stack.{Frame, in_left, in_right, least, unwind}
use Rattle.vac_audit.proofs.Noted.{same_codes}
use Rattle.vac_audit.proofs.Steps.{follow_ok}

abbrev pub node_of : Step → ℕ
node_of (Left p) = p
node_of (Right p side) = p

abbrev pub AllBlocks : ℕ → List Step → Type 0
AllBlocks n [] = Unit {0}
AllBlocks n (s ∷ ss) = IsBlock n (node_of s) × AllBlocks n ss

pub no_end : (ss : List Step) (s : Step) → ss ++ (s ∷ []) ≡ [] → ⊥
no_end ss s e = absurd (let q = ap (λ (z : List Step). length z) e in omega (arith, q, length-append ss (s ∷ [])))

-- the last of a list, and those before it
pub last_same : (ss ts : List Step) (s t : Step) → ss ++ (s ∷ []) ≡ ts ++ (t ∷ []) → (ss ≡ ts) × (s ≡ t)
last_same [] [] s t e = (refl, (let q : s ∷ [] ≡ t ∷ [] = e in cc))
last_same [] (y ∷ ts) s t e = absurd (no_end ts t (let q : s ∷ [] ≡ y ∷ (ts ++ (t ∷ [])) = e in cc))
last_same (x ∷ ss) [] s t e = absurd (no_end ss s (let q : x ∷ (ss ++ (s ∷ [])) ≡ t ∷ [] = e in cc))
last_same (x ∷ ss) (y ∷ ts) s t e =
    let q : x ∷ (ss ++ (s ∷ [])) ≡ y ∷ (ts ++ (t ∷ [])) = e in
    let w = last_same ss ts s t (let u : ss ++ (s ∷ []) ≡ ts ++ (t ∷ []) = cc in u) in
    let head : x ≡ y = cc in
    (let z = w.0 in cc, w.1)

-- the largest number of steps that remain
abbrev pub weight : List Step → ℕ
weight [] = 0
weight (Left p ∷ ss) = 3 + weight ss
weight (Right p side ∷ ss) = 1 + weight ss

abbrev pub turn_weight : Turn → ℕ
turn_weight (Down at) = 1
turn_weight (Up side) = 0

-- the number of nodes of a path that were not tested yet
abbrev pub lefts : List Step → ℕ
lefts [] = 0
lefts (Left p ∷ ss) = 1 + lefts ss
lefts (Right p side ∷ ss) = lefts ss

abbrev pub IsStep : Step → Frame → Type 0
IsStep (Left p) (in_left q) = p ≡ q
IsStep (Left p) (in_right q t) = ⊥
IsStep (Right p side) (in_left q) = ⊥
IsStep (Right p side) (in_right q t) = (p ≡ q) × IsSide side t

-- the path of the code, whose end is the lowest node, and the nodes above, the lowest first
abbrev pub IsPath : List Step → List Frame → Type 0
IsPath ss [] = ss ≡ []
IsPath ss (f ∷ fs) = (rest : List Step) × ((s : Step) × ((ss ≡ rest ++ (s ∷ [])) × IsStep s f × IsPath rest fs))

-- the rows that were tested before the tree below these nodes
abbrev pub rows_above : (ℕ → ℕ) → List Frame → Rows
rows_above m [] = []
rows_above m (in_left p ∷ fs) = rows_above m fs
rows_above m (in_right p l ∷ fs) = rows_above m fs ++ (rows l ++ ((m p, p) ∷ []))

-- how often a block is one of these nodes and not yet tested
abbrev pub pending : ℕ → List Frame → ℕ
pending x [] = 0
pending x (in_left p ∷ fs) = cond (nat_eq p x) 1 0 + pending x fs
pending x (in_right p l ∷ fs) = pending x fs

-- no block is tested twice, and a block that was tested or waits for its test was reached
abbrev pub Once : List Frame → Rows → List ℕ → Type 0
Once fs rs seen = (x : ℕ) → (times x rs + pending x fs ≡ 0) ⊎ ((times x rs + pending x fs ≡ 1) × (0 < held x seen))

pub once_down : (fs : List Frame) (rs : Rows) (seen : List ℕ) (p : ℕ) → held p seen ≡ 0 → Once fs rs seen →
    Once (in_left p ∷ fs) rs (p ∷ seen)
once_down fs rs seen p fresh h x = elim (h x) [
  | inl none ↦ elim (same_or p x) [
    | inl q ↦ (
        let here : cond {A = ℕ} (nat_eq p x) 1 0 ≡ 1 = grind (arith, nat_tests) in
        inr (omega (arith, none, here), omega (arith, here)))
    | inr ne ↦ (
        let here : cond {A = ℕ} (nat_eq p x) 1 0 ≡ 0 = grind (arith, nat_tests) in
        inl (omega (arith, none, here)))
  ]
  | inr one ↦ (
      let ne : p ≢ x = λ e. absurd (let z : held x seen ≡ 0 = subst (λ (z : ℕ). held z seen ≡ 0) e fresh in
      omega (arith, one.1, z)) in
      let here : cond {A = ℕ} (nat_eq p x) 1 0 ≡ 0 = grind (arith, nat_tests) in
      inr (omega (arith, one.0, here), omega (arith, one.1)))
]

pub once_left : (fs : List Frame) (rs : Rows) (seen seen' : List ℕ) (k p : ℕ) (t : Tree) →
    ((x : ℕ) → held x seen ≤ held x seen') → Once (in_left p ∷ fs) rs seen →
    Once (in_right p t ∷ fs) (rs ++ ((k, p) ∷ [])) seen'
once_left fs rs seen seen' k p t more h x = elim (h x) [
  | inl none ↦ inl (omega (arith, none, times_append x rs ((k, p) ∷ [])))
  | inr one ↦ inr (omega (arith, one.0, times_append x rs ((k, p) ∷ [])), omega (arith, one.1, more x))
]

-- the node that is tested was not tested before
pub once_other : (fs : List Frame) (rs : Rows) (seen : List ℕ) (p q : ℕ) → Once (in_left p ∷ fs) rs seen →
    0 < times q rs →
    q ≢ p
once_other fs rs seen p q h o e =
    let here : cond {A = ℕ} (nat_eq p q) 1 0 ≡ 1 = grind (arith, nat_tests) in
    elim (h q) [
      | inl none ↦ absurd (omega (arith, none, o))
      | inr one ↦ absurd (omega (arith, one.0, o, here))
    ]

pub rows_none : (rs : Rows) → rs ≡ rs ++ []
rows_none [] = refl
rows_none (r ∷ rs) = ap (λ (z : Rows). r ∷ z) (rows_none rs)

-- room in the notes
pub ready_less : (table : Table) (notes : Notes) (left left' : ℕ) → left' ≤ left → Ready table notes left →
    Ready table notes left'
ready_less (Items kind) notes left left' l h = h
ready_less Customers notes left left' l h = record {
  order = h.order;
  booked = λ i. omega (arith, h.booked i);
  bookings = omega (arith, h.bookings);
  billed = omega (arith, h.billed);
}

pub room_less : (table : Table) (notes : Notes) (left left' : ℕ) → left' ≤ left → HasRoomForItems table notes left →
    HasRoomForItems table notes left'
room_less (Items kind) notes left left' l h = omega arith
room_less Customers notes left left' l h = tt

pub room_next : (table : Table) (notes notes' : Notes) (left left' : ℕ) → left' + 1 ≤ left → Pushed table notes notes' →
    HasRoomForItems table notes left → HasRoomForItems table notes' left'
room_next (Items kind) notes notes' left left' l e h = omega (arith, e)
room_next Customers notes notes' left left' l e h = tt

pub indexed_as : (table : Table) (m : ℕ → ℕ) (notes notes' : Notes) (rs : Rows) (lists : ℕ → Rows) (tables : ℕ → Rows) →
    Noted table m notes notes' rs lists → Indexed table notes tables → Indexed table notes' tables
indexed_as (Items kind) m notes notes' rs lists tables h ix = tt
indexed_as Customers m notes notes' rs lists tables h ix = subst (λ (z : List ℕ). IsIndex z tables)
    (sym (same_codes notes notes' h.items)) ix

pub unmarked_few : (marks : List Bool) → unmarked marks ≤ length marks
unmarked_few [] = omega arith
unmarked_few (true ∷ marks) = omega (arith, unmarked_few marks)
unmarked_few (false ∷ marks) = omega (arith, unmarked_few marks)

abbrev pub whole : List ℕ → ℕ → ℕ → Look → Seen → Result (Tree × Seen) Flaw
whole words blocks root look s0 = walk_tree (slice_index words) (length words) look (suc blocks) root 1 s0

-- the state of the walk
abbrev pub StopsAt : List ℕ → ℕ → ℕ → Look → Seen → Turn → List Frame → ℕ → ℕ → Seen → Rows → Type 0
StopsAt words blocks root look s0 (Down at) fs levels from s rs = (from ≡ least (slice_index words) fs)
    × (unwind (slice_index words) (length words) look fs levels
    (walk_tree (slice_index words) (length words) look levels at (least (slice_index words) fs) s) ≡ whole words
    blocks root look s0)
    × (rs ≡ rows_above (slice_index words) fs)
StopsAt words blocks root look s0 (Up side) fs levels from s rs =
    (t : Tree) × (IsSide side t × (from ≡ above (least (slice_index words) fs) (rows t))
    × (unwind (slice_index words) (length words) look fs levels (Ok (t, s)) ≡ whole words blocks root look s0)
    × (rs ≡ rows_above (slice_index words) fs ++ rows t))

pub record TreeRest (words : List ℕ) (blocks root : ℕ) (look : Look) (s0 : Seen) (notes0 : Notes) (table : Table)
    (marks : List Bool) (notes : Notes) (path : List Step) (turn : Turn) (from nodes : ℕ) : Type 0 where
  pub frames : List Frame
  pub levels : ℕ
  pub seen : Seen
  pub done : Rows
  pub are : Marks marks seen.blocks
  pub path_is : IsPath path frames
  pub count : levels + length frames ≡ suc blocks
  pub once : Once frames done seen.blocks
  pub many : nodes ≡ length done
  pub noted : Noted table (slice_index words) notes0 notes done seen.lists
  pub stands : StopsAt words blocks root look s0 turn frames levels from seen done

-- bounds of a turn, whatever blocks were reached
abbrev pub TurnIn : ℕ → ℕ → ℕ → Turn → Type 0
TurnIn n blocks depth (Down at) = at < n
TurnIn n blocks depth (Up side) = side.blacks + depth ≤ blocks

pub record TreeGoes (words : List ℕ) (marks0 : List Bool) (notes0 : Notes) (table : Table) (root : ℕ)
    (marks : List Bool) (notes : Notes) (path : List Step) (turn : Turn) (from nodes : ℕ) : Type 0 where
  pub size : length marks ≡ length marks0
  pub in_blocks : AllBlocks (length words) path
  pub turn_in : TurnIn (length words) (length marks0) (length path) turn
  pub key : from ≤ 4294967296
  pub ready : Ready table notes (unmarked marks)
  pub room : HasRoomForItems table notes (unmarked marks + lefts path)
  pub few : nodes + (unmarked marks + lefts path) ≤ 262144
  pub rest : (tables : ℕ → Rows) → Indexed table notes0 tables → (s0 : Seen) → Marks marks0 s0.blocks →
      TreeRest words (length marks0) root (look_of (slice_index words) (length words) tables
      (suc (length marks0)) table) s0 notes0 table marks notes path turn from nodes

-- the lengths agree
pub path_length : (ss : List Step) (fs : List Frame) → IsPath ss fs → length ss ≡ length fs
path_length ss [] e = ap (λ (z : List Step). length z) e
path_length ss (f ∷ fs) h = ap (λ (z : List Step). length z) h.1.1.0 ∙ (length-append h.0 (h.1.0 ∷ []) ∙ (let e =
    path_length h.0 fs h.1.1.2 in omega arith))

pub blocks_pushed : (n : ℕ) (ss : List Step) (s : Step) → AllBlocks n ss → IsBlock n (node_of s) →
    AllBlocks n (ss ++ (s ∷ []))
blocks_pushed n [] s h b = (b, tt)
blocks_pushed n (x ∷ ss) s h b = (h.0, blocks_pushed n ss s h.1 b)

pub weight_append : (ss : List Step) (s : Step) → weight (ss ++ (s ∷ [])) ≡ weight ss + weight (s ∷ [])
weight_append [] s = omega arith
weight_append (Left p ∷ ss) s = omega (arith, weight_append ss s)
weight_append (Right p side ∷ ss) s = omega (arith, weight_append ss s)

pub lefts_append : (ss : List Step) (s : Step) → lefts (ss ++ (s ∷ [])) ≡ lefts ss + lefts (s ∷ [])
lefts_append [] s = omega arith
lefts_append (Left p ∷ ss) s = omega (arith, lefts_append ss s)
lefts_append (Right p side ∷ ss) s = omega (arith, lefts_append ss s)

pub table_flaw : (words : List ℕ) (blocks root : ℕ) (look : Look) (s0 : Seen) (f : Flaw) →
    whole words blocks root look s0 ≡ Err f → walk_table (slice_index words) (length words) look
    (suc blocks) root s0 ≡ Err f
table_flaw words blocks root look s0 f e = then_err (walk_tree (slice_index words) (length words) look
    (suc blocks) root 1 s0) _ f e

pub key_fails : (m : ℕ → ℕ) (p lo : ℕ) → ((m p < lo) ⊎ (4294967295 < m p)) → is_key m p lo ≡ false
key_fails m p lo (inl l) = grind (arith, nat_tests)
key_fails m p lo (inr l) = grind (arith, nat_tests)

pub key_holds : (m : ℕ → ℕ) (p lo : ℕ) → lo ≤ m p → m p ≤ 4294967295 → is_key m p lo ≡ true
key_holds m p lo a b = grind (arith, nat_tests)

pub key_as : (m : ℕ → ℕ) (p lo lo' : ℕ) (b : Bool) → lo ≡ lo' → is_key m p lo ≡ b → is_key m p lo' ≡ b
key_as m p lo lo' b e h = subst (λ (z : ℕ). is_key m p z ≡ b) e h

pub fresh_block : (m : ℕ → ℕ) (n a : ℕ) (seen : List ℕ) (p : ℕ) → follow m n a seen ≡ Ok p → IsBlock n p →
    held p seen ≡ 0
fresh_block m n a seen p e b = elim (follow_ok m n a seen p e) [
  | inl z ↦ absurd (omega (arith, z.0, b.1.1))
  | inr h ↦ h.fresh
]
