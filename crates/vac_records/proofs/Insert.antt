-- A block that is out is hung into a table.
use Rattle.std.proofs.Common.{◌≡◌, ◌≢◌, ◌⊎◌, inl, inr, ℕ, ◌+◌, ◌<◌, List, [], ◌∷◌, nat_eq, length, refl, sym, ap, ◌∙◌}
use Rattle.std.proofs.Common.{subst, arith, add-zero, zero-add, false}
use Rattle.std.proofs.lemmas.Bool.Decides.{nat_tests}
use Rattle.tx_memory.specs.Seen.{same_or}
use Rattle.tx_alloc.specs.Pool.{IsBlock, held, sum_below, with_at, IsPool}
use Rattle.tx_alloc.proofs.Sums.{with_here, with_else, sum_has, sum_two, sum_with}
use Rattle.tx_alloc.proofs.Chains.{held_first, free_block}
use Rattle.tx_alloc.proofs.Moves.{pool_same}
use Rattle.tx_alloc.specs.Rows.{Rows, times, put_row, Relinks}
use Rattle.tx_tree.specs.Table.{IsTable}
use Rattle.vac_bookings.specs.Bookings.{IsList}
use Rattle.vac_records.specs.Heap.{Parts, over, used_in, count_in, IsHeap}
use Rattle.tx_alloc.proofs.Times.{times_put, length_put}
use Rattle.tx_tree.proofs.TableFrame.{table_frame, table_block}
use Rattle.vac_bookings.proofs.Frame.{list_frame, list_block}
use Rattle.vac_records.proofs.Overs.{over_has, over_put}
use Rattle.tx_alloc.proofs.Outside.{outside_block, outside_links, outside_low}

-- the pool with other counts of the same numbers
pub pool_as : (m m' : ℕ → ℕ) (n : ℕ) (free : ℕ → List ℕ) (used used' : ℕ → ℕ) (count count' : ℕ) →
    ((i : ℕ) → i < 8 → m' (8 + i) ≡ m (8 + i)) → ((i x : ℕ) → i < 8 → 0 < held x (free i) → m' x ≡ m x) →
    ((x : ℕ) → IsBlock n x → used' x ≡ used x) → count' ≡ count → IsPool m n free used count →
    IsPool m' n free used' count'
pool_as m m' n free used used' count count' heads links counts e h =
    pool_same m m' n free used used' count' heads links counts (rw e h)

-- the lists' sum where one table gets a row without a list
over_tables : (f : Rows → ℕ) (i key b : ℕ) (tables lists : ℕ → Rows) → f (lists b) ≡ 0 →
    over f (with_at tables i (put_row (tables i) key b) 3) lists ≡ over f (tables 3) lists
over_tables f i key b tables lists z =
    elim (same_or 3 i) [
      | inl q ↦ (
          let e = with_here tables i 3 (put_row (tables i) key b) q in
          omega (
            arith,
            ap (λ (rs : Rows). over f rs lists) e,
            over_put f key b (tables i) lists,
            z,
            ap (λ (j : ℕ). over f (tables j) lists) q,
          ))
      | inr ne ↦ ap (λ (rs : Rows). over f rs lists) (with_else tables i 3 (put_row (tables i) key b) ne)
    ]

module _ (m m' : ℕ → ℕ) (n i key b : ℕ) (os : List ℕ) (p : Parts) (h : IsHeap m n p) (l : i < 4) (bb : IsBlock n b)
    (is : p.out ≡ b ∷ os) (none : p.lists b ≡ [])
    (zero : m (b + 4) ≡ 0 ⊎ (i < 3)) (new : IsTable m' n (m' (1 + i)) (put_row (p.tables i) key b))
    (r : Relinks m m' 1 (1 + i) (put_row (p.tables i) key b)) where
  out_b : 0 < held b p.out
  out_b = omega (arith, held_first b os, ap (held b) is)

  pub blocks : (a : ℕ) → 0 < times a (put_row (p.tables i) key b) → IsBlock n a
  blocks a o = table_block m' n (m' (1 + i)) a (put_row (p.tables i) key b) new o

  -- a block elsewhere is not among the rows
  pub apart : (x : ℕ) → IsBlock n x → times x (p.tables i) ≡ 0 → x ≢ b → times x (put_row (p.tables i) key b) ≡ 0
  apart x bx t ne = let e : nat_eq b x ≡ false = grind (arith, nat_tests) in
      times_put x key b (p.tables i) ∙ rw (e, t) refl

  -- so its words are as before
  pub same : (x k : ℕ) → IsBlock n x → times x (p.tables i) ≡ 0 → x ≢ b → k < 8 → m' (x + k) ≡ m (x + k)
  same x k bx t ne less = outside_block m m' n (1 + i) x k (put_row (p.tables i) key b) r blocks bx
      (apart x bx t ne) less (omega (arith, bx.1.1))

  once : (x : ℕ) → IsBlock n x → sum_below 8 (λ j. held x (p.free j)) + used_in p x ≡ 1
  once = h.pool.once

  pub in_table : (j x : ℕ) → j < 4 → j ≢ i → 0 < times x (p.tables j) →
      IsBlock n x × ((times x (p.tables i) ≡ 0) × (x ≢ b))
  in_table j x k ne o =
      let bx = table_block m n (m (1 + j)) x (p.tables j) (h.tables j k) o in (
        bx,
        (
          omega (arith, once x bx, o, sum_two 4 i j (λ z. times x (p.tables z)) l k (λ q. ne (sym q))),
          λ q. absurd (omega (
            arith,
            once b bb,
            out_b,
            o,
            ap (λ (z : ℕ). times z (p.tables j)) q,
            sum_has 4 j (λ z. times b (p.tables z)) k,
          )),
        ),
      )

  pub in_list : (c x : ℕ) → 0 < times c (p.tables 3) → 0 < times x (p.lists c) →
      IsBlock n x × ((times x (p.tables i) ≡ 0) × (x ≢ b))
  in_list c x o o' =
      let bx = list_block m n (m (c + 4)) x (p.lists c) (h.lists c o) o' in (
        bx,
        (
          omega (
            arith,
            once x bx,
            o',
            over_has (times x) c (p.tables 3) p.lists o,
            sum_has 4 i (λ z. times x (p.tables z)) l,
          ),
          λ q. absurd (omega (
            arith,
            once b bb,
            out_b,
            o',
            ap (λ (z : ℕ). times z (p.lists c)) q,
            over_has (times b) c (p.tables 3) p.lists o,
          )),
        ),
      )

  old_list : (c : ℕ) → 0 < times c (p.tables 3) → IsList m' n (m' (c + 4)) (p.lists c)
  old_list c o =
      let bc = table_block m n (m 4) c (p.tables 3) (h.tables 3 (omega arith)) o in
      let head : m' (c + 4) ≡ m (c + 4) = outside_links m m' n (1 + i) c 4 (put_row (p.tables i) key b) r blocks bc
      (omega arith) (omega arith) (omega (arith, bc.1.1)) in
      rw head (list_frame m m' n (m (c + 4)) (p.lists c) (h.lists c o) (λ x o' k less. let a = in_list c x o o' in
      same x k a.0 a.1.0 a.1.1 (omega arith)))

  new_list : i ≡ 3 → IsList m' n (m' (b + 4)) (p.lists b)
  new_list e =
      let head : m' (b + 4) ≡ m (b + 4) = outside_links m m' n (1 + i) b 4 (put_row (p.tables i) key b) r blocks bb
      (omega arith) (omega arith) (omega (arith, bb.1.1)) in
      rw none (record { linked = head ∙ elim zero [ inl z ↦ z | inr less ↦ absurd (omega arith) ] })

  any_list : (c : ℕ) → 0 < times c (with_at p.tables i (put_row (p.tables i) key b) 3) →
      IsList m' n (m' (c + 4)) (p.lists c)
  any_list c o =
      elim (same_or 3 i) [
        | inl q ↦ elim (same_or c b) [
          | inl e ↦ subst (λ (z : ℕ). IsList m' n (m' (z + 4)) (p.lists z)) (sym e) (new_list (sym q))
          | inr ne ↦ (
              let e = with_here p.tables i 3 (put_row (p.tables i) key b) q in
              let t : nat_eq b c ≡ false = grind (arith, nat_tests) in
              let same_times : times c (put_row (p.tables i) key b) ≡ times c (p.tables i) =
              times_put c key b (p.tables i) ∙ rw (t, zero-add) refl in
              old_list c (omega (arith, o, ap (times c) e, same_times, ap (λ (j : ℕ). times c (p.tables j)) q)))
        ]
        | inr ne ↦ old_list c (omega (arith, o, ap (times c) (with_else p.tables i 3 (put_row (p.tables i) key b) ne)))
      ]

  pub inserted : IsHeap m' n (record p { tables = with_at p.tables i (put_row (p.tables i) key b); out = os })
  inserted = record {
    tables = λ j k. elim (same_or j i) [
      | inl q ↦ (
          let e = with_here p.tables i j (put_row (p.tables i) key b) q in
          let root : 1 + j ≡ 1 + i = omega arith in
          rw (e, root) new)
      | inr ne ↦ (
          let e = with_else p.tables i j (put_row (p.tables i) key b) ne in
          let root : m' (1 + j) ≡ m (1 + j) = outside_low m m' n (1 + i) (1 + j) (put_row (p.tables i) key b) r blocks
          (omega arith) (omega arith) in
          rw (e, root) (table_frame m m' n (m (1 + j)) (p.tables j) (h.tables j k) (λ x o w less. let a =
          in_table j x k ne o in same x w a.0 a.1.0 a.1.1 (omega arith))))
    ];
    lists = any_list;
    pool = pool_as m m' n p.free (used_in p) (used_in (record p {
      tables = with_at p.tables i (put_row (p.tables i) key b);
      out =
          os;
    })) (count_in p) (count_in (record p { tables = with_at p.tables i (put_row (p.tables i) key b); out = os }))
        (λ j k. outside_low m m' n (1 + i) (8 + j) (put_row (p.tables i) key b) r blocks (omega arith) (omega arith))
        (λ j x k o.
        let bx = free_block m n (m (8 + j)) x (p.free j) (h.pool.lists j k) o in
        let t : times x (p.tables i) ≡ 0 = omega (
          arith,
          once x bx,
          o,
          sum_has 8 j (λ z. held x (p.free z)) k,
          sum_has 4 i (λ z. times x (p.tables z)) l,
        ) in
        let ne : x ≢ b = λ q. absurd (omega (
          arith,
          once b bb,
          out_b,
          o,
          ap (λ (z : ℕ). held z (p.free j)) q,
          sum_has 8 j (λ z. held b (p.free z)) k,
        )) in
        rw add-zero at (same x 0 bx t ne (omega arith)))
        (λ x bx. let e = sum_with 4 i p.tables (put_row (p.tables i) key b) (times x) l in
        omega (
          arith,
          e,
          times_put x key b (p.tables i),
          ap (held x) is,
          over_tables (times x) i key b p.tables p.lists (ap (times x) none),
        ))
        (let e = sum_with 4 i p.tables (put_row (p.tables i) key b) (λ (z : Rows). length z) l in
        omega (
          arith,
          e,
          length_put key b (p.tables i),
          ap (λ (z : List ℕ). length z) is,
          over_tables (λ (z : Rows). length z) i key b p.tables p.lists (ap (λ (z : Rows). length z) none),
        ))
        h.pool;
  }
