-- A block is taken, and words of a block that is out are written.
use Rattle.std.proofs.Common.{◌≡◌, ◌≢◌, ◌⊎◌, inl, inr, ℕ, ◌+◌, ◌<◌, ◌≤◌, List, [], ◌∷◌, ◌++◌, refl, ap, subst}
use Rattle.std.proofs.Common.{arith, add-zero}
use Rattle.std.proofs.lemmas.Bool.{cases_lt}
use Rattle.tx_alloc.specs.Pool.{IsBlock, held, with_at, with_block, IsTaking, IsGiving}
use Rattle.tx_alloc.specs.Drawing.{IsDrawing}
use Rattle.tx_alloc.proofs.Sums.{sum_has}
use Rattle.tx_alloc.proofs.Chains.{held_first, free_block}
use Rattle.tx_alloc.specs.Rows.{times}
use Rattle.tx_tree.specs.Table.{IsTable}
use Rattle.vac_bookings.specs.Bookings.{IsList}
use Rattle.vac_records.specs.Heap.{Parts, used_in, count_in, IsHeap}
use Rattle.tx_tree.proofs.TableFrame.{table_frame, table_block}
use Rattle.vac_bookings.proofs.Frame.{list_frame, list_block}
use Rattle.vac_records.proofs.Overs.{over_has}
use Rattle.vac_records.proofs.Insert.{pool_as}

-- the structures depend on the roots, on their blocks' first four words, and on the heads of the lists
pub structures : (m m' : ℕ → ℕ) (n : ℕ) (p : Parts) → IsHeap m n p → ((i : ℕ) → i < 4 → m' (1 + i) ≡ m (1 + i)) →
    ((x : ℕ) → IsBlock n x → 0 < used_in p x → held x p.out ≡ 0 → (k : ℕ) → k < 5 → m' (x + k) ≡ m (x + k)) →
    ((i : ℕ) → i < 4 → IsTable m' n (m' (1 + i)) (p.tables i)) × ((c : ℕ) → 0 < times c (p.tables 3) →
    IsList m' n (m' (c + 4)) (p.lists c))
structures m m' n p h roots same =
    let table_at : (i x : ℕ) → i < 4 → 0 < times x (p.tables i) → (k : ℕ) → k < 5 → m' (x + k) ≡ m (x + k) = λ i x l o.
    let bx = table_block m n (m (1 + i)) x (p.tables i) (h.tables i l) o in
    same x bx (omega (arith, o, sum_has 4 i (λ z. times x (p.tables z)) l))
    (omega (arith, h.pool.once x bx, o, sum_has 4 i (λ z. times x (p.tables z)) l)) in (
      λ i l. rw (roots i l) (table_frame m m' n (m (1 + i)) (p.tables i) (h.tables i l)
          (λ x o k less. table_at i x l o k (omega arith))),
      λ c o. rw (table_at 3 c (omega arith) o 4 (omega arith))
          (list_frame m m' n (m (c + 4)) (p.lists c) (h.lists c o) (λ x o' k less.
          let bx = list_block m n (m (c + 4)) x (p.lists c) (h.lists c o) o' in
          same x bx (omega (arith, o', over_has (times x) c (p.tables 3) p.lists o))
          (omega (arith, h.pool.once x bx, o', over_has (times x) c (p.tables 3) p.lists o)) k (omega arith))),
    )

pub take_law : (m m' : ℕ → ℕ) (n start b : ℕ) (p : Parts) → IsHeap m n p →
    (t : IsTaking m m' n p.free (used_in p) (count_in p) start b) →
    IsHeap m' n (record p { free = with_at p.free t.list t.rest; out = b ∷ p.out })
take_law m m' n start b p h t =
    let parts = structures m m' n p h (λ i l. t.write.others (1 + i) (omega arith))
    (λ x bx _ _ k less. t.write.others (x + k) (omega (arith, bx.1.1, t.is_list))) in
    record {
      tables = parts.0;
      lists = parts.1;
      pool = pool_as m' m' n (with_at p.free t.list t.rest) (with_block (used_in p) b)
          (used_in (record p { free = with_at p.free t.list t.rest; out = b ∷ p.out })) (count_in p + 1)
          (count_in (record p { free = with_at p.free t.list t.rest; out = b ∷ p.out }))
          (λ i l. refl) (λ i x l o. refl) (λ x bx. omega arith) (omega arith) t.pool;
    }

held_both : (x : ℕ) (ys zs : List ℕ) → held x (ys ++ zs) ≡ held x ys + held x zs
held_both x [] zs = omega arith
held_both x (y ∷ ys) zs = omega (arith, held_both x ys zs)

-- where a block is drawn, no word of a block that is in use is written
pub draw_same : (m m' : ℕ → ℕ) (n start b : ℕ) (p : Parts) → IsHeap m n p →
    IsDrawing m m' n p.free (used_in p) (count_in p) start b → (x k : ℕ) → IsBlock n x → 0 < used_in p x →
    k < 8 → m' (x + k) ≡ m (x + k)
draw_same m m' n start b p h t x k bx o less =
    let l : t.list < 8 = omega (arith, t.is_list) in
    t.others (x + k) (omega (arith, bx.1.1, l)) (omega (arith, bx.1.1, t.small)) (λ a moved q.
    let free : 0 < held a (p.free t.list) = omega (arith, moved, ap (held a) t.first, held_both a t.run t.rest) in
    let ba = free_block m n (m (8 + t.list)) a (p.free t.list) (h.pool.lists t.list l) free in
    let same : x ≡ a = omega (arith, q, ba.1.1, bx.1.1) in
    let used : 0 < used_in p a = subst (λ (z : ℕ). 0 < used_in p z) same o in
    absurd (omega (arith, h.pool.once a ba, free, used, sum_has 8 t.list (λ z. held a (p.free z)) l)))

-- nor one in front of the heads
draw_low : (m m' : ℕ → ℕ) (n start b : ℕ) (p : Parts) → IsHeap m n p →
    IsDrawing m m' n p.free (used_in p) (count_in p) start b → (x : ℕ) → x < 8 → m' x ≡ m x
draw_low m m' n start b p h t x low =
    let l : t.list < 8 = omega (arith, t.is_list) in
    t.others x (omega arith) (omega arith) (λ a moved q.
    let free : 0 < held a (p.free t.list) = omega (arith, moved, ap (held a) t.first, held_both a t.run t.rest) in
    let ba = free_block m n (m (8 + t.list)) a (p.free t.list) (h.pool.lists t.list l) free in
    absurd (omega (arith, q, ba.1.1)))

pub draw_law : (m m' : ℕ → ℕ) (n start b : ℕ) (p : Parts) → IsHeap m n p →
    (t : IsDrawing m m' n p.free (used_in p) (count_in p) start b) →
    IsHeap m' n (record p { free = with_at (with_at p.free t.list t.rest) start t.run; out = b ∷ p.out })
draw_law m m' n start b p h t =
    let free = with_at (with_at p.free t.list t.rest) start t.run in
    let parts = structures m m' n p h (λ i l. draw_low m m' n start b p h t (1 + i) (omega arith))
    (λ x bx o _ k less. draw_same m m' n start b p h t x k bx o (omega arith)) in
    record {
      tables = parts.0;
      lists = parts.1;
      pool = pool_as m' m' n free (with_block (used_in p) b)
          (used_in (record p { free = with_at (with_at p.free t.list t.rest) start t.run; out = b ∷ p.out }))
          (count_in p + 1)
          (count_in (record p { free = with_at (with_at p.free t.list t.rest) start t.run; out = b ∷ p.out }))
          (λ i l. refl) (λ i x l o. refl) (λ x bx. omega arith) (omega arith) t.pool;
    }

pub write_law : (m m' : ℕ → ℕ) (n b : ℕ) (os : List ℕ) (p : Parts) → IsHeap m n p → IsBlock n b → p.out ≡ b ∷ os →
    ((x : ℕ) → (x < b) ⊎ (b + 8 ≤ x) → m' x ≡ m x) → IsHeap m' n p
write_law m m' n b os p h bb is w =
    let o : 0 < held b p.out = omega (arith, held_first b os, ap (held b) is) in
    let same : (x k : ℕ) → IsBlock n x → x ≢ b → k < 8 → m' (x + k) ≡ m (x + k) = λ x k bx ne l.
    w (x + k) (elim (cases_lt x b) [
      | inl below ↦ inl (omega (arith, bx.1.1, bb.1.1))
      | inr above ↦
          inr (omega (arith, bx.1.1, bb.1.1))
    ]) in
    let low : (x : ℕ) → x < 16 → m' x ≡ m x = λ x l. w x (inl (omega (arith, bb.1.1))) in
    let parts = structures m m' n p h (λ i l. low (1 + i) (omega arith))
    (λ x bx _ none k less. same x k bx (λ q. absurd (omega (arith, o, none, ap (λ (z : ℕ). held z p.out) q)))
    (omega arith)) in
    record {
      tables = parts.0;
      lists = parts.1;
      pool = pool_as m m' n p.free (used_in p) (used_in p) (count_in p) (count_in p)
          (λ i l. low (8 + i) (omega arith))
          (λ j x k i.
          let bx = free_block m n (m (8 + j)) x (p.free j) (h.pool.lists j k) i in
          let ne : x ≢ b = λ q. absurd (omega (
            arith,
            h.pool.once b bb,
            o,
            i,
            ap (λ (z : ℕ). held z (p.free j)) q,
            sum_has 8 j (λ z. held b (p.free z)) k,
          )) in
          rw add-zero at (same x 0 bx ne (omega arith)))
          (λ x bx. refl) refl h.pool;
    }

pub give_law : (m m' : ℕ → ℕ) (n start b : ℕ) (os : List ℕ) (p : Parts) → IsHeap m n p → start < 8 → IsBlock n b →
    p.out ≡ b ∷ os →
    IsGiving m m' n p.free (used_in (record p { out = os })) (count_in (record p { out = os })) start b →
    IsHeap m' n (record p { free = with_at p.free start (b ∷ p.free start); out = os })
give_law m m' n start b os p h l bb is g =
    let o : 0 < held b p.out = omega (arith, held_first b os, ap (held b) is) in
    let same : (x k : ℕ) → IsBlock n x → x ≢ b → k < 8 → m' (x + k) ≡ m (x + k) =
    λ x k bx ne less. g.others (x + k) (omega (arith, bx.1.1, bb.1.1)) (omega (arith, bx.1.1)) in
    let parts = structures m m' n p h (λ i k. g.others (1 + i) (omega (arith, bb.1.1)) (omega arith))
    (λ x bx _ none k less. same x k bx (λ q. absurd (omega (arith, o, none, ap (λ (z : ℕ). held z p.out) q)))
    (omega arith)) in
    record { tables = parts.0; lists = parts.1; pool = g.pool }
