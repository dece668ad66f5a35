-- The memory of a sound heap represents the state of its parts.
use Rattle.std.proofs.Common.{◌≡◌, inl, inr, ℕ, ◌+◌, ◌*◌, ◌<◌, ◌≤◌, Bool, cond, false, [], ◌∷◌, refl, ap, subst, arith}
use Rattle.std.proofs.Common.{nat_eq}
use Rattle.std.proofs.lemmas.Bool.Decides.{nat_tests}
use Rattle.std.proofs.lemmas.Bool.{cases_lt}
use Rattle.tx_memory.specs.Seen.{same_or}
use Rattle.tx_alloc.specs.Rows.{Rows, times}
use Rattle.tx_alloc.proofs.Order.{from_lower}
use Rattle.tx_alloc.proofs.Sums.{sum_has}
use Rattle.vac_bookings.specs.Bookings.{IsList}
use Rattle.tx_tree.specs.Table.{IsTable}
use Rattle.vac_records.specs.Heap.{Parts, IsHeap}
use Rattle.vac_records.specs.Represents.{Represents}
use Rattle.vac_audit.proofs.Sound.{Each, IsSound, IsTreeTable}
use Rattle.vac_audit.proofs.States.{state_of}
use Rattle.vac_audit.proofs.Over.{each_as}
use Rattle.vac_audit.proofs.Found.{table_block}
use Rattle.vac_audit.proofs.Showing.{state_law}

-- a fact of each block, at one of them
pub each_at : (P : ℕ → Type 0) (c : ℕ) (rs : Rows) → 0 < times c rs → Each (λ r. P r.1) rs → P c
each_at P c [] o h = absurd (omega (arith, o))
each_at P c (r ∷ rs) o h = elim (same_or r.1 c) [
  | inl same ↦ subst P same h.0
  | inr other ↦ (let t : nat_eq r.1 c ≡ false = grind (arith, nat_tests) in
      each_at P c rs (omega (arith, o, ap (λ (b : Bool). cond {A = ℕ} b 1 0) t)) h.1)
]

-- a tree with each block once is a table
table_is : (m : ℕ → ℕ) (n p : ℕ) (rs : Rows) → IsTreeTable m n p rs → ((x : ℕ) → times x rs ≤ 1) → IsTable m n p rs
table_is m n p rs h once = record {
  tree = h.tree;
  hangs = h.hangs;
  is = h.is;
  even = h.even;
  apart = h.apart;
  black = h.black;
  ascending = from_lower 1 0 rs (omega arith) h.rises;
  once = once;
}

module _ (m : ℕ → ℕ) (blocks : ℕ) (p : Parts) (h : IsSound m (16 + 8 * blocks) p) where
  once : (i : ℕ) → i < 4 → (x : ℕ) → times x (p.tables i) ≤ 1
  once i l x = elim (cases_lt 0 (times x (p.tables i))) [
    | inl some ↦ (
        let b = table_block m (16 + 8 * blocks) (m (1 + i)) x (p.tables i) (h.tables i l) some in
        omega (arith, h.pool.once x b, sum_has 4 i (λ j. times x (p.tables j)) l))
    | inr none ↦ omega (arith, none)
  ]

  pub lists : Each (λ r. IsList m (16 + 8 * blocks) (m (r.1 + 4)) (p.lists r.1)) (p.tables 3)
  lists = each_as _ (λ r. IsList m (16 + 8 * blocks) (m (r.1 + 4)) (p.lists r.1)) (p.tables 3) (λ r o g. g.0) h.lists

  pub heap : IsHeap m (16 + 8 * blocks) p
  heap = record {
    tables = λ i l. table_is m (16 + 8 * blocks) (m (1 + i)) (p.tables i) (h.tables i l) (once i l);
    lists = λ c o. each_at (λ b. IsList m (16 + 8 * blocks) (m (b + 4)) (p.lists b)) c (p.tables 3) o lists;
    pool = h.pool;
  }

  abbrev pub represented : Represents m (16 + 8 * blocks) [] (state_of m blocks p)
  represented =
      let shows = (state_law m blocks p h).0 in
      record {
        size = refl;
        parts = p;
        heap = heap;
        held = h.none_out;
        items = shows.items;
        customers = shows.customers;
      }
