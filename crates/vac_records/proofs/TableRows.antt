-- What a table says of its rows.
use Rattle.std.proofs.Common.{◌≡◌, ◌≢◌, ℕ, ◌+◌, ◌∷◌, ◌++◌, refl, sym, ap, ◌∙◌, subst, arith}
use Rattle.tx_alloc.specs.Rows.{Rows}
use Rattle.tx_tree.specs.Tree.{Tree, leaf, node, rows}
use Rattle.tx_tree.specs.Hangs.{Hangs}
use Rattle.tx_tree.specs.Table.{IsTable}
use Rattle.tx_tree.proofs.TableFrame.{table_block}
use Rattle.vac_records.proofs.Keyed.{HasRow, row_times}

pub table_some : (m : ℕ → ℕ) (n p : ℕ) (rs : Rows) → IsTable m n p rs → (k a : ℕ) → HasRow k a rs → a ≢ 0
table_some m n p rs h k a i e = absurd (omega (arith, e, (table_block m n p a rs h (row_times k a rs i)).1.1))

-- words hold one tree
hangs_one : (m : ℕ → ℕ) (n p : ℕ) (t u : Tree) → Hangs m n p t → Hangs m n p u → rows t ≡ rows u
hangs_one m n p leaf leaf h g = refl
hangs_one m n p leaf (node c l r t) h g = absurd (omega (arith, h, g.0.at, g.0.block.1.1))
hangs_one m n p (node c l r t) leaf h g = absurd (omega (arith, g, h.0.at, h.0.block.1.1))
hangs_one m n p (node c l r t) (node c' l' r' t') h g =
    let block : r.1 ≡ r'.1 = sym h.0.at ∙ g.0.at in
    let key : r.0 ≡ r'.0 = sym h.0.key ∙ (ap m block ∙ g.0.key) in
    let left = hangs_one m n (m (r.1 + 1)) l l' h.1.0 (subst (λ (a : ℕ). Hangs m n (m (a + 1)) l') (sym block) g.1.0) in
    let right = hangs_one m n (m (r.1 + 2)) t t' h.1.1 (subst (λ (a : ℕ). Hangs m n (m (a + 2)) t') (sym block) g.1.1)
    in
    λ i. left i ++ ((key i, block i) ∷ right i)

-- words hold one table
pub table_one : (m : ℕ → ℕ) (n p : ℕ) (rs rs' : Rows) → IsTable m n p rs → IsTable m n p rs' → rs ≡ rs'
table_one m n p rs rs' h g = sym h.is ∙ (hangs_one m n p h.tree g.tree h.hangs g.hangs ∙ g.is)
