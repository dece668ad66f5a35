-- A booking is taken out of a customer's list.
use Rattle.std.proofs.Common.{◌≡◌, ◌≢◌, inl, inr, ℕ, ◌+◌, ◌<◌, ◌∷◌, length, sym, subst, arith, add-zero}
use Rattle.tx_memory.specs.Seen.{same_or}
use Rattle.tx_alloc.specs.Pool.{IsBlock, held, sum_below, with_at}
use Rattle.tx_alloc.proofs.Sums.{with_here, with_else, sum_has}
use Rattle.tx_alloc.proofs.Chains.{free_block}
use Rattle.tx_alloc.specs.Rows.{Rows, times, cut_row, block_at, Relinks}
use Rattle.vac_bookings.specs.Bookings.{IsList}
use Rattle.vac_records.specs.Heap.{Parts, used_in, count_in, IsHeap}
use Rattle.tx_alloc.proofs.Times.{times_cut, length_cut}
use Rattle.tx_tree.proofs.TableFrame.{table_frame, table_block}
use Rattle.vac_bookings.proofs.Frame.{list_frame, list_block}
use Rattle.vac_records.proofs.Overs.{over_has, over_two, over_with}
use Rattle.tx_alloc.proofs.Outside.{outside_block, outside_links, outside_low}
use Rattle.vac_records.proofs.Insert.{pool_as}

module _ (m m' : ℕ → ℕ) (n c key b : ℕ) (p : Parts) (h : IsHeap m n p) (there : 0 < times c (p.tables 3))
    (at : block_at (p.lists c) key ≡ b) (some : b ≢ 0)
    (new : IsList m' n (m' (c + 4)) (cut_row (p.lists c) key)) (r : Relinks m m' 3 (c + 4) (p.lists c)) where
  pub block_c : IsBlock n c
  block_c = table_block m n (m 4) c (p.tables 3) (h.tables 3 (omega arith)) there

  pub blocks : (a : ℕ) → 0 < times a (p.lists c) → IsBlock n a
  blocks a o = list_block m n (m (c + 4)) a (p.lists c) (h.lists c there) o

  pub same : (x k : ℕ) → IsBlock n x → times x (p.lists c) ≡ 0 → k < 4 → m' (x + k) ≡ m (x + k)
  same x k bx t less = outside_block m m' n (c + 4) x k (p.lists c) r blocks bx t (omega arith)
      (omega (arith, bx.1.1, block_c.1.1))

  once : (x : ℕ) → IsBlock n x → sum_below 8 (λ j. held x (p.free j)) + used_in p x ≡ 1
  once = h.pool.once

  pub unbooked : IsHeap m' n (record p { lists = with_at p.lists c (cut_row (p.lists c) key); out = b ∷ p.out })
  unbooked = record {
    tables = λ j k.
        let root : m' (1 + j) ≡ m (1 + j) = outside_low m m' n (c + 4) (1 + j) (p.lists c) r blocks (omega arith)
        (omega (arith, block_c.1.1)) in
        rw root (table_frame m m' n (m (1 + j)) (p.tables j) (h.tables j k) (λ x o w less.
        let bx = table_block m n (m (1 + j)) x (p.tables j) (h.tables j k) o in
        same x w bx (omega (
          arith,
          once x bx,
          o,
          sum_has 4 j (λ z. times x (p.tables z)) k,
          over_has (times x) c (p.tables 3) p.lists there,
        )) less));
    lists = λ d o. elim (same_or d c) [
      | inl q ↦ (
          let e = with_here p.lists c d (cut_row (p.lists c) key) q in
          rw e (subst (λ (z : ℕ). IsList m' n (m' (z + 4)) (cut_row (p.lists c) key)) (sym q) new))
      | inr ne ↦ (
          let e = with_else p.lists c d (cut_row (p.lists c) key) ne in
          let bd = table_block m n (m 4) d (p.tables 3) (h.tables 3 (omega arith)) o in
          let head : m' (d + 4) ≡ m (d + 4) = outside_links m m' n (c + 4) d 4 (p.lists c) r blocks bd (omega arith)
          (omega arith) (omega arith) in
          rw (e, head) (list_frame m m' n (m (d + 4)) (p.lists d) (h.lists d o) (λ x o' w less.
          let bx = list_block m n (m (d + 4)) x (p.lists d) (h.lists d o) o' in
          same x w bx (omega (arith, once x bx, o', over_two (times x) d c (p.tables 3) p.lists ne o there)) less)))
    ];
    pool = pool_as m m' n p.free (used_in p) (used_in (record p {
      lists = with_at p.lists c (cut_row (p.lists c) key);
      out =
          b ∷ p.out;
    })) (count_in p) (count_in (record p {
      lists = with_at p.lists c (cut_row (p.lists c) key);
      out = b ∷ p.out;
    }))
        (λ j k. outside_low m m' n (c + 4) (8 + j) (p.lists c) r blocks (omega arith) (omega (arith, block_c.1.1)))
        (λ j x k o.
        let bx = free_block m n (m (8 + j)) x (p.free j) (h.pool.lists j k) o in
        let t : times x (p.lists c) ≡ 0 = omega (
          arith,
          once x bx,
          o,
          sum_has 8 j (λ z. held x (p.free z)) k,
          over_has (times x) c (p.tables 3) p.lists there,
        ) in
        rw add-zero at (same x 0 bx t (omega arith)))
        (λ x bx. omega (
          arith,
          over_with (times x) c (cut_row (p.lists c) key) (p.tables 3) p.lists one,
          times_cut x key b (p.lists c) at some,
        ))
        (omega (
          arith,
          over_with (λ (z : Rows). length z) c (cut_row (p.lists c) key) (p.tables 3) p.lists one,
          length_cut key b (p.lists c) at some,
        ))
        h.pool;
  } where
    one : times c (p.tables 3) ≡ 1
    one = omega (arith, once c block_c, there, sum_has 4 3 (λ z. times c (p.tables z)) (omega arith))
