-- A block that is out is hung into a customer's list of bookings.
use Rattle.std.proofs.Common.{◌≡◌, ◌≢◌, inl, inr, ℕ, ◌+◌, ◌<◌, List, ◌∷◌, nat_eq, length, refl, sym, ap, ◌∙◌, subst}
use Rattle.std.proofs.Common.{arith, add-zero, false}
use Rattle.std.proofs.lemmas.Bool.Decides.{nat_tests}
use Rattle.tx_memory.specs.Seen.{same_or}
use Rattle.tx_alloc.specs.Pool.{IsBlock, held, sum_below, with_at}
use Rattle.tx_alloc.proofs.Sums.{with_here, with_else, sum_has}
use Rattle.tx_alloc.proofs.Chains.{held_first, free_block}
use Rattle.tx_alloc.specs.Rows.{Rows, times, put_row, Relinks}
use Rattle.vac_bookings.specs.Bookings.{IsList}
use Rattle.vac_records.specs.Heap.{Parts, used_in, count_in, IsHeap}
use Rattle.tx_alloc.proofs.Times.{times_put, length_put}
use Rattle.tx_tree.proofs.TableFrame.{table_frame, table_block}
use Rattle.vac_bookings.proofs.Frame.{list_frame, list_block}
use Rattle.vac_records.proofs.Overs.{over_has, over_two, over_with}
use Rattle.tx_alloc.proofs.Outside.{outside_block, outside_links, outside_low}
use Rattle.vac_records.proofs.Insert.{pool_as}

module _ (m m' : ℕ → ℕ) (n c key b : ℕ) (os : List ℕ) (p : Parts) (h : IsHeap m n p) (there : 0 < times c (p.tables 3))
    (bb : IsBlock n b) (is : p.out ≡ b ∷ os)
    (new : IsList m' n (m' (c + 4)) (put_row (p.lists c) key b))
    (r : Relinks m m' 3 (c + 4) (put_row (p.lists c) key b)) where
  out_b : 0 < held b p.out
  out_b = omega (arith, held_first b os, ap (held b) is)

  pub block_c : IsBlock n c
  block_c = table_block m n (m 4) c (p.tables 3) (h.tables 3 (omega arith)) there

  pub blocks : (a : ℕ) → 0 < times a (put_row (p.lists c) key b) → IsBlock n a
  blocks a o = list_block m' n (m' (c + 4)) a (put_row (p.lists c) key b) new o

  pub apart : (x : ℕ) → IsBlock n x → times x (p.lists c) ≡ 0 → x ≢ b → times x (put_row (p.lists c) key b) ≡ 0
  apart x bx t ne = let e : nat_eq b x ≡ false = grind (arith, nat_tests) in
      times_put x key b (p.lists c) ∙ rw (e, t) refl

  -- the first four words of a block elsewhere are as before
  pub same : (x k : ℕ) → IsBlock n x → times x (p.lists c) ≡ 0 → x ≢ b → k < 4 → m' (x + k) ≡ m (x + k)
  same x k bx t ne less = outside_block m m' n (c + 4) x k (put_row (p.lists c) key b) r blocks bx (apart x bx t ne)
      (omega arith) (omega (arith, bx.1.1, block_c.1.1))

  once : (x : ℕ) → IsBlock n x → sum_below 8 (λ j. held x (p.free j)) + used_in p x ≡ 1
  once = h.pool.once

  pub in_table : (j x : ℕ) → j < 4 → 0 < times x (p.tables j) → IsBlock n x × ((times x (p.lists c) ≡ 0) × (x ≢ b))
  in_table j x k o =
      let bx = table_block m n (m (1 + j)) x (p.tables j) (h.tables j k) o in (
        bx,
        (
          omega (
            arith,
            once x bx,
            o,
            sum_has 4 j (λ z. times x (p.tables z)) k,
            over_has (times x) c (p.tables 3) p.lists there,
          ),
          λ q. absurd (omega (
            arith,
            once b bb,
            out_b,
            o,
            ap (λ (z : ℕ). times z (p.tables j)) q,
            sum_has 4 j (λ z. times b (p.tables z)) k,
          )),
        ),
      )

  pub in_list : (d x : ℕ) → 0 < times d (p.tables 3) → d ≢ c → 0 < times x (p.lists d) →
      IsBlock n x × ((times x (p.lists c) ≡ 0) × (x ≢ b))
  in_list d x o ne o' =
      let bx = list_block m n (m (d + 4)) x (p.lists d) (h.lists d o) o' in (
        bx,
        (
          omega (arith, once x bx, o', over_two (times x) d c (p.tables 3) p.lists ne o there),
          λ q. absurd (omega (
            arith,
            once b bb,
            out_b,
            o',
            ap (λ (z : ℕ). times z (p.lists d)) q,
            over_has (times b) d (p.tables 3) p.lists o,
          )),
        ),
      )

  pub booked : IsHeap m' n (record p { lists = with_at p.lists c (put_row (p.lists c) key b); out = os })
  booked = record {
    tables = λ j k.
        let root : m' (1 + j) ≡ m (1 + j) = outside_low m m' n (c + 4) (1 + j) (put_row (p.lists c) key b) r blocks
        (omega arith) (omega (arith, block_c.1.1)) in
        rw root (table_frame m m' n (m (1 + j)) (p.tables j) (h.tables j k) (λ x o w less. let a = in_table j x k o in
        same x w a.0 a.1.0 a.1.1 less));
    lists = λ d o. elim (same_or d c) [
      | inl q ↦ (
          let e = with_here p.lists c d (put_row (p.lists c) key b) q in
          rw e (subst (λ (z : ℕ). IsList m' n (m' (z + 4)) (put_row (p.lists c) key b)) (sym q) new))
      | inr ne ↦ (
          let e = with_else p.lists c d (put_row (p.lists c) key b) ne in
          let bd = table_block m n (m 4) d (p.tables 3) (h.tables 3 (omega arith)) o in
          let head : m' (d + 4) ≡ m (d + 4) = outside_links m m' n (c + 4) d 4 (put_row (p.lists c) key b) r blocks bd
          (omega arith) (omega arith) (omega arith) in
          rw (e, head) (list_frame m m' n (m (d + 4)) (p.lists d) (h.lists d o) (λ x o' w less. let a =
          in_list d x o ne o' in same x w a.0 a.1.0 a.1.1 less)))
    ];
    pool = pool_as m m' n p.free (used_in p) (used_in (record p {
      lists = with_at p.lists c (put_row (p.lists c) key b);
      out =
          os;
    })) (count_in p) (count_in (record p { lists = with_at p.lists c (put_row (p.lists c) key b); out = os }))
        (λ j k. outside_low m m' n (c + 4) (8 + j) (put_row (p.lists c) key b) r blocks (omega arith)
        (omega (arith, block_c.1.1)))
        (λ j x k o.
        let bx = free_block m n (m (8 + j)) x (p.free j) (h.pool.lists j k) o in
        let t : times x (p.lists c) ≡ 0 = omega (
          arith,
          once x bx,
          o,
          sum_has 8 j (λ z. held x (p.free z)) k,
          over_has (times x) c (p.tables 3) p.lists there,
        ) in
        let ne : x ≢ b = λ q. absurd (omega (
          arith,
          once b bb,
          out_b,
          o,
          ap (λ (z : ℕ). held z (p.free j)) q,
          sum_has 8 j (λ z. held b (p.free z)) k,
        )) in
        rw add-zero at (same x 0 bx t ne (omega arith)))
        (λ x bx. omega (
          arith,
          over_with (times x) c (put_row (p.lists c) key b) (p.tables 3) p.lists one,
          times_put x key b (p.lists c),
          ap (held x) is,
        ))
        (omega (
          arith,
          over_with (λ (z : Rows). length z) c (put_row (p.lists c) key b) (p.tables 3) p.lists one,
          length_put key b (p.lists c),
          ap (λ (z : List ℕ). length z) is,
        ))
        h.pool;
  } where
    one : times c (p.tables 3) ≡ 1
    one = omega (arith, once c block_c, there, sum_has 4 3 (λ z. times c (p.tables z)) (omega arith))
