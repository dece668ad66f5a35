-- A partitioned heap: all blocks are free, and the blocks of each list are consecutive.
use Rattle.std.specs.Prelude.{◌≡◌, ◌≢◌, ℕ, ◌+◌, ◌-◌, ◌/◌, ◌<◌, ◌≤◌, List, [], ◌∷◌, length, slice_index, zero, suc}
use Rattle.tx_alloc.specs.Pool.{block_place, heap_words, place_of_block, sum_below}
use Rattle.tx_alloc.specs.declared.place.TheConstants.{LISTS, FIRST_HEAD}

-- the number of blocks of list i among n blocks: an eighth. If eight does not divide n, the first
-- lists have one block more.
abbrev pub share_of_list : ℕ → ℕ → ℕ
share_of_list n i = (n + 7 - i) / 8

-- the first block of list i, after the blocks of the lists before it
abbrev pub spread_start : ℕ → ℕ → ℕ
spread_start n i = sum_below i (share_of_list n)

-- the words of a heap of n free blocks: the lists have consecutive eighths of the blocks, and all
-- other words are 0
pub record IsSpreadHeap (xs : List ℕ) (n : ℕ) : Type 0 where
  pub size : length xs ≡ heap_words n
  pub heads : (i : ℕ) → i < LISTS → slice_index xs (FIRST_HEAD + i)
      ≡ place_of_block (spread_start n (i + 1)) (spread_start n i)
  pub nexts : (i b : ℕ) → i < LISTS → spread_start n i ≤ b → b < spread_start n (i + 1) →
      slice_index xs (block_place b) ≡ place_of_block (spread_start n (i + 1)) (b + 1)
  pub others : (x : ℕ) → ((i : ℕ) → i < LISTS → x ≢ FIRST_HEAD + i) →
      ((b : ℕ) → b < n → x ≢ block_place b) → slice_index xs x ≡ 0

-- k consecutive blocks, from block b on
abbrev pub blocks_from : ℕ → ℕ → List ℕ
blocks_from zero b = []
blocks_from (suc k) b = block_place b ∷ blocks_from k (b + 1)

-- the lists of a partitioned heap of n blocks
abbrev pub spread_lists : ℕ → ℕ → List ℕ
spread_lists n i = blocks_from (share_of_list n i) (spread_start n i)

-- the blocks from `first` up to `end`, exclusive, are linked as a list of their own, and nothing
-- else was written
pub record IsLinked (xs ys : List ℕ) (list first end : ℕ) : Type 0 where
  pub size : length ys ≡ length xs
  pub head : slice_index ys (FIRST_HEAD + list) ≡ place_of_block end first
  pub nexts : (b : ℕ) → first ≤ b → b < end →
      slice_index ys (block_place b) ≡ place_of_block end (b + 1)
  pub others : (x : ℕ) → x ≢ FIRST_HEAD + list →
      ((b : ℕ) → first ≤ b → b < end → x ≢ block_place b) → slice_index ys x ≡ slice_index xs x
