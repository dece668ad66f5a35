-- A block is taken out of a table.
use Rattle.std.proofs.Common.{◌≡◌, ◌≢◌, ◌⊎◌, inl, inr, ℕ, ◌+◌, ◌<◌, [], ◌∷◌, length, refl, sym, ap, ◌∙◌, arith}
use Rattle.std.proofs.Common.{add-zero}
use Rattle.tx_memory.specs.Seen.{same_or}
use Rattle.tx_alloc.specs.Pool.{IsBlock, held, sum_below, with_at}
use Rattle.tx_alloc.proofs.Sums.{with_here, with_else, sum_has, sum_two, sum_with}
use Rattle.tx_alloc.proofs.Chains.{free_block}
use Rattle.tx_alloc.specs.Rows.{Rows, times, cut_row, block_at, Relinks}
use Rattle.tx_tree.specs.Table.{IsTable}
use Rattle.vac_bookings.specs.Bookings.{IsList}
use Rattle.vac_records.specs.Heap.{Parts, over, used_in, count_in, IsHeap}
use Rattle.tx_alloc.proofs.Times.{times_cut, length_cut}
use Rattle.tx_tree.proofs.TableFrame.{table_frame, table_block}
use Rattle.vac_bookings.proofs.Frame.{list_frame, list_block}
use Rattle.vac_records.proofs.Overs.{over_has, over_cut}
use Rattle.tx_alloc.proofs.Outside.{outside_block, outside_links, outside_low}
use Rattle.vac_records.proofs.Insert.{pool_as}

over_tables : (f : Rows → ℕ) (i key b : ℕ) (tables lists : ℕ → Rows) → block_at (tables i) key ≡ b → b ≢ 0 →
    (i < 3) ⊎ (f (lists b) ≡ 0) → over f (with_at tables i (cut_row (tables i) key) 3) lists ≡ over f (tables 3) lists
over_tables f i key b tables lists at some z =
    elim (same_or 3 i) [
      | inl q ↦ (
          let e = with_here tables i 3 (cut_row (tables i) key) q in
          let none : f (lists b) ≡ 0 = elim z [ inl l ↦ absurd (omega arith) | inr y ↦ y ] in
          omega (
            arith,
            ap (λ (rs : Rows). over f rs lists) e,
            over_cut f key b (tables i) lists at some,
            none,
            ap (λ (j : ℕ). over f (tables j) lists) q,
          ))
      | inr ne ↦ ap (λ (rs : Rows). over f rs lists) (with_else tables i 3 (cut_row (tables i) key) ne)
    ]

empty_or : (f : Rows → ℕ) (i b : ℕ) (lists : ℕ → Rows) → f [] ≡ 0 → (i < 3) ⊎ (lists b ≡ []) →
    (i < 3) ⊎ (f (lists b) ≡ 0)
empty_or f i b lists z s = elim s [ inl l ↦ inl l | inr e ↦ inr (ap f e ∙ z) ]

module _ (m m' : ℕ → ℕ) (n i key b : ℕ) (p : Parts) (h : IsHeap m n p) (l : i < 4) (at : block_at (p.tables i) key ≡ b)
    (some : b ≢ 0) (none : (i < 3) ⊎ (p.lists b ≡ []))
    (new : IsTable m' n (m' (1 + i)) (cut_row (p.tables i) key)) (r : Relinks m m' 1 (1 + i) (p.tables i)) where
  pub blocks : (a : ℕ) → 0 < times a (p.tables i) → IsBlock n a
  blocks a o = table_block m n (m (1 + i)) a (p.tables i) (h.tables i l) o

  pub same : (x k : ℕ) → IsBlock n x → times x (p.tables i) ≡ 0 → k < 8 → m' (x + k) ≡ m (x + k)
  same x k bx t less = outside_block m m' n (1 + i) x k (p.tables i) r blocks bx t less (omega (arith, bx.1.1))

  once : (x : ℕ) → IsBlock n x → sum_below 8 (λ j. held x (p.free j)) + used_in p x ≡ 1
  once = h.pool.once

  old_list : (c : ℕ) → 0 < times c (p.tables 3) → IsList m' n (m' (c + 4)) (p.lists c)
  old_list c o =
      let bc = table_block m n (m 4) c (p.tables 3) (h.tables 3 (omega arith)) o in
      let head : m' (c + 4) ≡ m (c + 4) = outside_links m m' n (1 + i) c 4 (p.tables i) r blocks bc (omega arith)
      (omega arith) (omega (arith, bc.1.1)) in
      rw head (list_frame m m' n (m (c + 4)) (p.lists c) (h.lists c o) (λ x o' k less.
      let bx = list_block m n (m (c + 4)) x (p.lists c) (h.lists c o) o' in
      same x k bx (omega (
        arith,
        once x bx,
        o',
        over_has (times x) c (p.tables 3) p.lists o,
        sum_has 4 i (λ z. times x (p.tables z)) l,
      )) (omega arith)))

  pub removed : IsHeap m' n (record p { tables = with_at p.tables i (cut_row (p.tables i) key); out = b ∷ p.out })
  removed = record {
    tables = λ j k. elim (same_or j i) [
      | inl q ↦ (
          let e = with_here p.tables i j (cut_row (p.tables i) key) q in
          let root : 1 + j ≡ 1 + i = omega arith in
          rw (e, root) new)
      | inr ne ↦ (
          let e = with_else p.tables i j (cut_row (p.tables i) key) ne in
          let root : m' (1 + j) ≡ m (1 + j) = outside_low m m' n (1 + i) (1 + j) (p.tables i) r blocks (omega arith)
          (omega arith) in
          rw (e, root) (table_frame m m' n (m (1 + j)) (p.tables j) (h.tables j k) (λ x o w less.
          let bx = table_block m n (m (1 + j)) x (p.tables j) (h.tables j k) o in
          same x w bx (omega (arith, once x bx, o, sum_two 4 i j (λ z. times x (p.tables z)) l k (λ q. ne (sym q))))
          (omega arith))))
    ];
    lists = λ c o. old_list c (elim (same_or 3 i) [
      | inl q ↦ omega (
        arith,
        o,
        ap (times c) (with_here p.tables i 3 (cut_row (p.tables i) key) q),
        times_cut c key b (p.tables i) at some,
        ap (λ (j : ℕ). times c (p.tables j)) q,
      )
      | inr ne ↦ omega (arith, o, ap (times c) (with_else p.tables i 3 (cut_row (p.tables i) key) ne))
    ]);
    pool = pool_as m m' n p.free (used_in p) (used_in (record p {
      tables = with_at p.tables i (cut_row (p.tables i) key);
      out =
          b ∷ p.out;
    })) (count_in p) (count_in (record p {
      tables = with_at p.tables i (cut_row (p.tables i) key);
      out = b ∷ p.out;
    }))
        (λ j k. outside_low m m' n (1 + i) (8 + j) (p.tables i) r blocks (omega arith) (omega arith))
        (λ j x k o.
        let bx = free_block m n (m (8 + j)) x (p.free j) (h.pool.lists j k) o in
        let t : times x (p.tables i) ≡ 0 = omega (
          arith,
          once x bx,
          o,
          sum_has 8 j (λ z. held x (p.free z)) k,
          sum_has 4 i (λ z. times x (p.tables z)) l,
        ) in
        rw add-zero at (same x 0 bx t (omega arith)))
        (λ x bx. let e = sum_with 4 i p.tables (cut_row (p.tables i) key) (times x) l in
        omega (
          arith,
          e,
          times_cut x key b (p.tables i) at some,
          over_tables (times x) i key b p.tables p.lists at some (empty_or (times x) i b p.lists refl none),
        ))
        (let e = sum_with 4 i p.tables (cut_row (p.tables i) key) (λ (z : Rows). length z) l in
        omega (
          arith,
          e,
          length_cut key b (p.tables i) at some,
          over_tables (λ (z : Rows). length z) i key b p.tables p.lists at some
              (empty_or (λ (z : Rows). length z) i b p.lists refl none),
        ))
        h.pool;
  }
