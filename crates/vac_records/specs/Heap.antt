-- The whole heap: four tables, the customers' lists of bookings, the free blocks, and the blocks
-- in hand, which a running call has taken and not yet linked.
use Rattle.std.specs.Prelude.{ℕ, ◌+◌, ◌<◌, List, [], ◌∷◌, length}
use Rattle.tx_alloc.specs.Pool.{held, sum_below, IsPool}
use Rattle.tx_alloc.specs.Rows.{Rows, times}
use Rattle.tx_tree.specs.Table.{IsTable}
use Rattle.vac_bookings.specs.Bookings.{IsList}

-- the structures of a heap: the tables of cars, flights, rooms and customers by their numbers 0 to
-- 3, the lists of bookings by their customers' blocks, the free blocks by their lists, and the
-- blocks in hand
pub record Parts : Type 0 where
  pub tables : ℕ → Rows
  pub lists : ℕ → Rows
  pub free : ℕ → List ℕ
  pub out : List ℕ

-- the sum of a number of each list, over the lists of these customers
abbrev pub over : (Rows → ℕ) → Rows → (ℕ → Rows) → ℕ
over f [] lists = 0
over f (r ∷ rs) lists = f (lists r.1) + over f rs lists

-- the number of times that a block occurs in the tables, in the lists and among the blocks in hand
abbrev pub used_in : Parts → ℕ → ℕ
used_in p x =
    sum_below 4 (λ i. times x (p.tables i)) + over (times x) (p.tables 3) p.lists + held x p.out

-- the number of taken blocks: the entries of the tables and of the lists, and the blocks in hand
abbrev pub count_in : Parts → ℕ
count_in p =
    sum_below 4 (λ i. length (p.tables i)) + over (λ rs. length rs) (p.tables 3) p.lists
    + length p.out

-- the words 1 to 4 lead to the tables, the fifth word of a customer's block leads to the
-- customer's list of bookings, and each block of the memory of n words is in exactly one structure
pub record IsHeap (m : ℕ → ℕ) (n : ℕ) (p : Parts) : Type 0 where
  pub tables : (i : ℕ) → i < 4 → IsTable m n (m (1 + i)) (p.tables i)
  pub lists : (c : ℕ) → 0 < times c (p.tables 3) → IsList m n (m (c + 4)) (p.lists c)
  pub pool : IsPool m n p.free (used_in p) (count_in p)
