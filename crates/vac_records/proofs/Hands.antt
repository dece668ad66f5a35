-- Blocks are taken, given back and written while they are in hand: the state stays.
use Rattle.std.proofs.Common.{◌≡◌, ◌≢◌, inl, inr, ℕ, ◌+◌, List, ◌∷◌, length, refl, ap, arith}
use Rattle.std.proofs.lemmas.Bool.{cases_lt}
use Rattle.tx_alloc.specs.Pool.{IsBlock, held, with_at, with_block, IsUsed}
use Rattle.vac_records.specs.Heap.{Parts, used_in, count_in, IsHeap}
use Rattle.vac_records.specs.Laws.{BlockTaken, BlockDrawn, BlockGiven, BlockWritten}
use Rattle.vac_records.proofs.Insert.{pool_as}
use Rattle.vac_records.proofs.Take.{take_law, draw_law, draw_same, write_law, give_law}
use Rattle.vac_records.proofs.Shifts.{keeps, all_same, out_first}

pub block_taken : BlockTaken
unfolding keeps
block_taken m m' n start b out s h t =
    let p = h.parts in
    let same = all_same m m' n p h.heap (λ x k bx _ _ less. t.write.others (x + k) (omega (arith, bx.1.1, t.is_list)))
    in
    let after = keeps m m' n out (b ∷ out) s h (record p { free = with_at p.free t.list t.rest; out = b ∷ p.out })
    (take_law m m' n start b p h.heap t) (ap (λ (z : List ℕ). b ∷ z) h.held) same.0 same.1 in
    record { after = after; tables = λ j lj. refl }

pub block_drawn : BlockDrawn
unfolding keeps
block_drawn m m' n start b out s h t =
    let p = h.parts in
    let same = all_same m m' n p h.heap (λ x k bx o _ less. draw_same m m' n start b p h.heap t x k bx o less) in
    let after = keeps m m' n out (b ∷ out) s h
    (record p { free = with_at (with_at p.free t.list t.rest) start t.run; out = b ∷ p.out })
    (draw_law m m' n start b p h.heap t) (ap (λ (z : List ℕ). b ∷ z) h.held) same.0 same.1 in
    record { after = after; tables = λ j lj. refl }

pub block_written : BlockWritten
unfolding keeps
block_written m m' n b out s bb h w =
    let p = h.parts in
    let o = out_first p b out h.held in
    let same = all_same m m' n p h.heap (λ x k bx _ none less. w (x + k) (elim (cases_lt x b) [
      | inl below ↦ inl (omega (arith, bx.1.1, bb.1.1))
      | inr above ↦ inr (let ne : x ≢ b = λ q. absurd (omega (arith, o, none, ap (λ (z : ℕ). held z p.out) q)) in
          omega (arith, bx.1.1, bb.1.1))
    ])) in
    let after = keeps m m' n (b ∷ out) (b ∷ out) s h p (write_law m m' n b out p h.heap bb h.held w) h.held same.0
    same.1 in
    record { after = after; tables = λ j lj. refl }

-- a block in hand is taken
pub out_used : (m : ℕ → ℕ) (n b : ℕ) (out : List ℕ) (p : Parts) → IsHeap m n p → IsBlock n b → p.out ≡ b ∷ out →
    IsUsed m n p.free (used_in (record p { out = out })) (count_in (record p { out = out })) b
out_used m n b out p h bb is = record {
  block = bb;
  pool = pool_as m m n p.free (used_in p) (with_block (used_in (record p { out = out })) b) (count_in p)
      (count_in (record p { out = out }) + 1)
      (λ i l. refl) (λ i x l o. refl) (λ x bx. omega (arith, ap (held x) is))
      (omega (arith, ap (λ (z : List ℕ). length z) is)) h.pool;
}

pub block_given : BlockGiven
unfolding keeps
block_given m m' n start b out s l bb h give =
    let p = h.parts in
    let g = give (used_in (record p { out = out })) (count_in (record p { out = out }))
    (out_used m n b out p h.heap bb h.held) in
    let o = out_first p b out h.held in
    let same = all_same m m' n p h.heap (λ x k bx _ none less.
    let ne : x ≢ b = λ q. absurd (omega (arith, o, none, ap (λ (z : ℕ). held z p.out) q)) in
    g.others (x + k) (omega (arith, bx.1.1, bb.1.1)) (omega (arith, bx.1.1))) in
    let after = keeps m m' n (b ∷ out) out s h (record p { free = with_at p.free start (b ∷ p.free start); out = out })
    (give_law m m' n start b out p h.heap l bb h.held g) refl same.0 same.1 in
    record { after = after; tables = λ j lj. refl }
