-- What a memory that holds a state has, before and after reads.
use Rattle.std.proofs.Common.{◌≡◌, ℕ, ◌+◌, ◌<◌, ◌≤◌, List, [], ◌∷◌, length, Option, Some, None}
use Rattle.std.proofs.Common.{refl, ap, sym, subst, arith}
use Rattle.tx_memory.specs.View.{View, Sees}
use Rattle.vac_model.specs.State.{State}
use Rattle.vac_model.specs.declared.items.Kind.{Kind}
use Rattle.vac_model.specs.State.{kind_number}
use Rattle.tx_alloc.specs.Rows.{Rows}
use Rattle.tx_tree.specs.declared.walk.Walk.{Walk}
use Rattle.tx_tree.specs.Table.{Table}
use Rattle.tx_tree.specs.Walk.{IsAhead, HasWalk, Begun, Stepped, first_block, later_rows}
use Rattle.vac_records.specs.Items.{mem}
use Rattle.vac_records.specs.Represents.{IsState}
use Rattle.vac_records.specs.InMemory.{HoldsState, OnlyRead}
use Rattle.vac_records.specs.Steps.{stood}
use Rattle.vac_records.proofs.Shifts.{kind_small}
use Rattle.vac_records.proofs.Bridges.{table_there}
pub use Rattle.vac_records.proofs.AfterReads.{read_none, read_both, held_on}

pub kind_low : (kind : Kind) → kind_number kind < 4
kind_low kind = omega (arith, kind_small kind)

-- the table that a root word leads to
pub table_at : (s : View) (image : List ℕ) (state : State) (i root : ℕ) → root ≡ 1 + i → i < 4 →
    (h : IsState (mem s image) (length image) state) → Table (mem s image) (length image) root
    (h.represents.parts.tables i)
table_at s image state i root e l h =
    subst (λ (x : ℕ). Table (mem s image) (length image) x (h.represents.parts.tables i)) (sym e)
    (table_there (mem s image) (length image) [] state i h.represents (omega (arith, h.small.small)) l)

-- the rows of the i-th table
abbrev pub rows_of : (m : ℕ → ℕ) (n : ℕ) (state : State) → IsState m n state → ℕ → Rows
rows_of m n state h i = h.represents.parts.tables i

-- a table has at most 262,144 rows
pub few_rows : (m : ℕ → ℕ) (n : ℕ) (state : State) (h : IsState m n state) (i : ℕ) → i < 4 →
    length (rows_of m n state h i) ≤ 262144
few_rows m n state h i l = (table_there m n [] state i h.represents (omega (arith, h.small.small)) l).few

pub no_rows : (rows : Rows) → length rows ≡ 0 → rows ≡ []
no_rows [] e = refl
no_rows (r ∷ rs) e = absurd (omega arith)

-- a walk that began at a table's root has all its rows to come
pub begun_rows : (s s1 : View) (i root : ℕ) (walk : Walk) → root ≡ 1 + i → i < 4 → Begun s s1 root walk →
    (image : List ℕ) (state : State) → Sees s1 image → (h : IsState (mem s image) (length image) state) →
    IsAhead (mem s image) (length image) walk (rows_of (mem s image) (length image) state h i)
begun_rows s s1 i root walk e l b image state j h =
    b.is image (rows_of (mem s image) (length image) state h i) j (table_at s image state i root e l h)

-- a walk of which some rows are to come in each memory that holds a state
pub has_walk : (s0 s : View) (walk : Walk) → HoldsState s0 → OnlyRead s0 s → ((image : List ℕ) (state : State) →
    Sees s image → IsState (mem s0 image) (length image) state →
    (rs : Rows) × IsAhead (mem s0 image) (length image) walk rs) → HasWalk s walk
has_walk s0 s walk holds reads ahead = record {
  small = omega (arith, holds.small, reads.kept.size);
  under = λ image j.
      let state = holds.under image (stood reads.kept image j) in
      rw reads.writes (ahead image state.0 j.sees state.1);
}

-- the rows that were to come, and what a step makes of them, of the memory at the start
pub step_rows : (s0 s s1 : View) (walk walk' : Walk) (next : Option ℕ) → OnlyRead s0 s → Stepped s s1 walk walk' next →
    (image : List ℕ) (rs : Rows) → Sees s1 image → IsAhead (mem s0 image) (length image) walk rs →
    (first_block rs ≡ next) × IsAhead (mem s0 image) (length image) walk' (later_rows rs)
step_rows s0 s s1 walk walk' next reads f image rs j ahead =
    let p = f.is image rs j (rw reads.writes ahead) in
    (p.0, rw reads.writes at p.1)

some_is : {A : Type 0} (x y : A) → Some x ≡ Some y → x ≡ y
some_is {A} x y e = ap (λ (o : Option A). or_else o x) e where
  or_else : Option A → A → A
  or_else None d = d
  or_else (Some z) d = z

-- rows that begin with a block's row
pub first_row : (rs : Rows) (b : ℕ) → first_block rs ≡ Some b → (k : ℕ) × (rs ≡ (k, b) ∷ later_rows rs)
first_row [] b e = absurd (let z : ◌≡◌ {A = Option ℕ} None (Some b) = e in cc)
first_row (r ∷ rs) b e = let is = some_is r.1 b e in (r.0, λ j. (r.0, is j) ∷ rs)

-- no first row, no rows
pub no_row : (rs : Rows) → first_block rs ≡ None → rs ≡ []
no_row [] e = refl
no_row (r ∷ rs) e = absurd (let z : ◌≡◌ {A = Option ℕ} (Some r.1) None = e in cc)

-- a step, as it was taken
pub step_at : (s s1 : View) (walk walk' : Walk) (found next : Option ℕ) → found ≡ next →
    Stepped s s1 walk walk' found → Stepped s s1 walk walk' next
step_at s s1 walk walk' found next e f = subst (λ (x : Option ℕ). Stepped s s1 walk walk' x) e f
