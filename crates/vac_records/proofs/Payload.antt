-- Words of an entry that no structure rests on are written.
use Rattle.std.proofs.Common.{◌≡◌, ◌≢◌, ◌⊎◌, inl, inr, ℕ, ◌+◌, ◌<◌, ◌≤◌, refl, ap, arith, add-zero}
use Rattle.std.proofs.lemmas.Bool.{cases_lt}
use Rattle.tx_alloc.specs.Pool.{IsBlock, held}
use Rattle.tx_alloc.proofs.Sums.{sum_has, sum_two}
use Rattle.tx_alloc.proofs.Chains.{free_block}
use Rattle.tx_alloc.specs.Rows.{times}
use Rattle.vac_records.specs.Heap.{Parts, used_in, count_in, IsHeap}
use Rattle.tx_tree.proofs.TableFrame.{table_frame, table_block}
use Rattle.vac_bookings.proofs.Frame.{list_frame, list_block}
use Rattle.vac_records.proofs.Links.{list_kept, booked_links}
use Rattle.vac_records.proofs.Overs.{over_has}
use Rattle.vac_records.proofs.Insert.{pool_as}

-- words behind the links of an item are written
pub payload_law : (m m' : ℕ → ℕ) (n i b : ℕ) (p : Parts) → IsHeap m n p → i < 3 → 0 < times b (p.tables i) →
    ((x : ℕ) → (x < b + 4) ⊎ (b + 8 ≤ x) → m' x ≡ m x) → IsHeap m' n p
payload_law m m' n i b p h l there w =
    let bb = table_block m n (m (1 + i)) b (p.tables i) (h.tables i (omega arith)) there in
    let outside : (x k : ℕ) → IsBlock n x → (x ≢ b) ⊎ (k < 4) → k < 8 → m' (x + k) ≡ m (x + k) = λ x k bx e less.
    w (x + k) (elim (cases_lt (x + k) (b + 4)) [
      | inl below ↦ inl below
      | inr above ↦ inr (elim e [ inl ne ↦ omega (arith, bx.1.1, bb.1.1) | inr low ↦ omega (arith, bx.1.1, bb.1.1) ])
    ]) in
    let low : (x : ℕ) → x < 16 → m' x ≡ m x = λ x less. w x (inl (omega (arith, bb.1.1))) in
    record {
      tables = λ j k. rw (low (1 + j) (omega arith)) (table_frame m m' n (m (1 + j)) (p.tables j) (h.tables j k)
          (λ x o w less. outside x w (table_block m n (m (1 + j)) x (p.tables j) (h.tables j k) o) (inr less)
          (omega arith)));
      lists = λ c o.
          let bc = table_block m n (m 4) c (p.tables 3) (h.tables 3 (omega arith)) o in
          let ne : c ≢ b = λ q. absurd (omega (
            arith,
            h.pool.once b bb,
            there,
            o,
            ap (λ (z : ℕ). times z (p.tables 3)) q,
            sum_two 4 i 3 (λ z. times b (p.tables z)) (omega arith)
                (omega arith) (omega arith),
          )) in
          rw (outside c 4 bc (inl ne) (omega arith)) (list_frame m m' n (m (c + 4)) (p.lists c) (h.lists c o)
          (λ x o' k less. outside x k (list_block m n (m (c + 4)) x (p.lists c) (h.lists c o) o') (inr less)
          (omega arith)));
      pool = pool_as m m' n p.free (used_in p) (used_in p) (count_in p) (count_in p) (λ j k. low (8 + j) (omega arith))
          (λ j x k o. rw add-zero at (outside x 0 (free_block m n (m (8 + j)) x (p.free j) (h.pool.lists j k) o)
          (inr (omega arith)) (omega arith)))
          (λ x bx. refl) refl h.pool;
    }

-- the sum and the units of a booking are written
pub booked_law : (m m' : ℕ → ℕ) (n c b : ℕ) (p : Parts) → IsHeap m n p → 0 < times c (p.tables 3) →
    0 < times b (p.lists c) → ((x : ℕ) → x ≢ b + 2 → x ≢ b + 4 → m' x ≡ m x) → IsHeap m' n p
booked_law m m' n c b p h tc tb w =
    let bb = list_block m n (m (c + 4)) b (p.lists c) (h.lists c tc) tb in
    let once = h.pool.once b bb in
    let here = over_has (times b) c (p.tables 3) p.lists tc in
    let outside : (x k : ℕ) → IsBlock n x → x ≢ b → k < 8 → m' (x + k) ≡ m (x + k) = λ x k bx ne less.
    w (x + k) (omega (arith, bx.1.1, bb.1.1)) (omega (arith, bx.1.1, bb.1.1)) in
    let low : (x : ℕ) → x < 16 → m' x ≡ m x = λ x less. w x (omega (arith, bb.1.1)) (omega (arith, bb.1.1)) in
    record {
      tables = λ j k. rw (low (1 + j) (omega arith)) (table_frame m m' n (m (1 + j)) (p.tables j) (h.tables j k)
          (λ x o v less.
          let bx = table_block m n (m (1 + j)) x (p.tables j) (h.tables j k) o in
          let ne : x ≢ b = λ q. absurd (omega (
            arith,
            once,
            tb,
            here,
            o,
            ap (λ (z : ℕ). times z (p.tables j)) q,
            sum_has 4 j (λ z. times b (p.tables z)) k,
          )) in
          outside x v bx ne (omega arith)));
      lists = λ d o.
          let bd = table_block m n (m 4) d (p.tables 3) (h.tables 3 (omega arith)) o in
          let ne : d ≢ b = λ q. absurd (omega (
            arith,
            once,
            tb,
            here,
            o,
            ap (λ (z : ℕ). times z (p.tables 3)) q,
            sum_has 4 3 (λ z. times b (p.tables z)) (omega arith),
          )) in
          rw (outside d 4 bd ne (omega arith)) (list_kept m m' n (m (d + 4)) (p.lists d) (h.lists d o)
          (λ x o'. booked_links m m' n b x bb (list_block m n (m (d + 4)) x (p.lists d) (h.lists d o) o') w));
      pool = pool_as m m' n p.free (used_in p) (used_in p) (count_in p) (count_in p) (λ j k. low (8 + j) (omega arith))
          (λ j x k o.
          let bx = free_block m n (m (8 + j)) x (p.free j) (h.pool.lists j k) o in
          let ne : x ≢ b = λ q. absurd (omega (
            arith,
            once,
            tb,
            here,
            o,
            ap (λ (z : ℕ). held z (p.free j)) q,
            sum_has 8 j (λ z. held b (p.free z)) k,
          )) in
          rw add-zero at (outside x 0 bx ne (omega arith)))
          (λ x bx. refl) refl h.pool;
    }
