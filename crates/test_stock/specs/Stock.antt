-- A memory with one list, whose head is word 5, and with a block for each of 120 keys.
use Rattle.std.specs.Prelude.{◌≡◌, ℕ, ◌+◌, ◌-◌, ◌/◌, ◌%◌, ◌<◌, List, cond, nat_eq, nat_lt, length, slice_index}
use Rattle.tx_memory.specs.View.{View, RestsOn}
use Rattle.tx_alloc.specs.Steps.{mem}
use Rattle.tx_alloc.specs.Pool.{block_place}
use Rattle.vac_bookings.specs.declared.key.Key.{Key}
use Rattle.vac_bookings.specs.Lists.{SomeList}

-- the keys of the stock: three kinds with forty ids each
abbrev pub IsStockKey : Key → Type 0
IsStockKey key = (key.kind < 3) × (key.id < 40)

-- the first word of block j
abbrev pub stock_block : ℕ → ℕ
stock_block j = block_place j

-- the word at index i before the first change: each block has its key, and the list is empty
abbrev pub stock_word : ℕ → ℕ
stock_word i =
    cond (nat_lt i 16) (cond (nat_eq i 5) 0 (1000 + i))
    (cond (nat_eq (i % 8) 0) (((i - 16) / 8) / 40)
    (cond (nat_eq (i % 8) 1) (((i - 16) / 8) % 40) (1000 + i)))

-- the words are those before the first change
abbrev pub IsStock : List ℕ → Type 0
IsStock xs = (length xs ≡ 976) × ((i : ℕ) → i < 976 → slice_index xs i ≡ stock_word i)

-- each block still has its key, and the head points to a list
pub record IsStocked (m : ℕ → ℕ) (n : ℕ) : Type 0 where
  pub size : n ≡ 976
  pub list : SomeList m n 5
  pub kind_is : (j : ℕ) → j < 120 → m (stock_block j + 0) ≡ j / 40
  pub id_is : (j : ℕ) → j < 120 → m (stock_block j + 1) ≡ j % 40

-- under each possible image of its size, the memory has the blocks with their keys, and a list
pub record HasStock (s : View) : Type 0 where
  pub size : s.size ≡ 976
  pub under : (image : List ℕ) → RestsOn s image → IsStocked (mem s image) (length image)
