-- The blocks of a memory: free blocks in eight lists, and taken blocks.
use Rattle.std.specs.Prelude.{◌≡◌, ◌≢◌, ℕ, ◌+◌, ◌*◌, ◌%◌, ◌<◌, ◌≤◌, ◌^◌, List, [], ◌∷◌, cond, nat_eq, nat_lt, length, slice_index, zero, suc}
use Rattle.tx_memory.specs.View.{View, Sees, RestsOn, Kept, IsWrite}
use Rattle.tx_alloc.specs.Steps.{mem}
use Rattle.tx_alloc.specs.declared.place.TheConstants.{LISTS, FIRST_HEAD, FIRST_BLOCK, BLOCK_WORDS}

-- the address of the first word of block b
abbrev pub block_place : ℕ → ℕ
block_place b = FIRST_BLOCK + BLOCK_WORDS * b

-- the number of words of a heap of n blocks
abbrev pub heap_words : ℕ → ℕ
heap_words blocks = FIRST_BLOCK + BLOCK_WORDS * blocks

-- a is the address of the first word of a block of a memory of n words
abbrev pub IsBlock : ℕ → ℕ → Type 0
IsBlock n a = (b : ℕ) × ((a + BLOCK_WORDS ≤ n) × (a ≡ block_place b))

-- p leads to these blocks, which are linked by their first words
abbrev pub Free : (ℕ → ℕ) → ℕ → ℕ → List ℕ → Type 0
Free m n p [] = p ≡ 0
Free m n p (a ∷ bs) = (p ≡ a) × IsBlock n a × Free m n (m a) bs

-- the number of times that a list has a number
abbrev pub held : ℕ → List ℕ → ℕ
held x [] = 0
held x (a ∷ bs) = cond (nat_eq a x) 1 0 + held x bs

-- the sum f 0 + .. + f (k - 1)
abbrev pub sum_below : ℕ → (ℕ → ℕ) → ℕ
sum_below zero f = 0
sum_below (suc k) f = f k + sum_below k f

-- the function with another value at one argument
abbrev pub with_at : {A : Type 0} → (ℕ → A) → ℕ → A → ℕ → A
with_at f i x j = cond (nat_eq j i) x (f j)

-- the counts of blocks with one block more
abbrev pub with_block : (ℕ → ℕ) → ℕ → ℕ → ℕ
with_block used b x = cond (nat_eq b x) 1 0 + used x

-- the free blocks of a memory of n words are in eight lists, whose heads are words 8 to 15. The
-- other blocks are taken: `used` counts each taken block, and `count` is their number. Each block
-- is either free or taken, exactly once.
pub record IsPool (m : ℕ → ℕ) (n : ℕ) (free : ℕ → List ℕ) (used : ℕ → ℕ) (count : ℕ) : Type 0 where
  pub lists : (i : ℕ) → i < LISTS → Free m n (m (FIRST_HEAD + i)) (free i)
  pub once : (x : ℕ) → IsBlock n x → sum_below LISTS (λ i. held x (free i)) + used x ≡ 1
  pub all : heap_words (sum_below LISTS (λ i. length (free i)) + count) ≡ n

-- the words are a pool with some free blocks and some taken blocks
pub record SomePool (m : ℕ → ℕ) (n : ℕ) : Type 0 where
  pub free : ℕ → List ℕ
  pub used : ℕ → ℕ
  pub count : ℕ
  pub pool : IsPool m n free used count

-- under each possible image of the memory's size, the words are a pool. Addresses fit 32 bits.
pub record HasPool (s : View) : Type 0 where
  pub small : s.size ≤ 2 ^ 32
  pub under : (image : List ℕ) → RestsOn s image → SomePool (mem s image) (length image)

-- only reads were made, and all lists are exhausted
pub record NoneFree (s s' : View) : Type 0 where
  pub kept : Kept s s'
  pub writes : s'.writes ≡ s.writes
  pub none : (image : List ℕ) (free : ℕ → List ℕ) (used : ℕ → ℕ) (count : ℕ) → Sees s' image →
      IsPool (mem s image) (length image) free used count → (i : ℕ) → i < LISTS → free i ≡ []

-- b was the first block of the first list with blocks among start, start + 1 and so on, modulo 8.
-- The block is now taken, and nothing was written except the list's head.
pub record IsTaking (m m' : ℕ → ℕ) (n : ℕ) (free : ℕ → List ℕ) (used : ℕ → ℕ)
    (count start b : ℕ) : Type 0 where
  pub steps : ℕ
  pub earlier : (k : ℕ) → k < steps → free ((start + k) % LISTS) ≡ []
  pub list : ℕ
  pub is_list : list ≡ (start + steps) % LISTS
  pub rest : List ℕ
  pub first : free list ≡ b ∷ rest
  pub block : IsBlock n b
  pub pool : IsPool m' n (with_at free list rest) (with_block used b) (count + 1)
  pub write : IsWrite m m' (FIRST_HEAD + list) (m b)

-- under each possible image b was free, and is now taken
pub record Taken (s s' : View) (start b : ℕ) : Type 0 where
  pub kept : Kept s s'
  pub room : b + BLOCK_WORDS ≤ s'.size
  pub taking : (image : List ℕ) (free : ℕ → List ℕ) (used : ℕ → ℕ) (count : ℕ) → Sees s' image →
      IsPool (mem s image) (length image) free used count →
      IsTaking (mem s image) (mem s' image) (length image) free used count start b

-- b is a taken block
pub record IsUsed (m : ℕ → ℕ) (n : ℕ) (free : ℕ → List ℕ) (used : ℕ → ℕ)
    (count b : ℕ) : Type 0 where
  pub block : IsBlock n b
  pub pool : IsPool m n free (with_block used b) (count + 1)

-- the words are a pool in which the block b is taken
pub record SomeUsed (m : ℕ → ℕ) (n b : ℕ) : Type 0 where
  pub free : ℕ → List ℕ
  pub used : ℕ → ℕ
  pub count : ℕ
  pub is : IsUsed m n free used count b

-- under each possible image of the memory's size, b is taken. Addresses fit 32 bits.
pub record HasUsed (s : View) (b : ℕ) : Type 0 where
  pub small : s.size ≤ 2 ^ 32
  pub under : (image : List ℕ) → RestsOn s image → SomeUsed (mem s image) (length image) b

-- b is now the first block of list `start`, and nothing was written except the first word of b and
-- the list's head
pub record IsGiving (m m' : ℕ → ℕ) (n : ℕ) (free : ℕ → List ℕ) (used : ℕ → ℕ)
    (count start b : ℕ) : Type 0 where
  pub pool : IsPool m' n (with_at free start (b ∷ free start)) used count
  pub others : (x : ℕ) → x ≢ b → x ≢ FIRST_HEAD + start → m' x ≡ m x

-- under each possible image b was taken, and is now free
pub record Given (s s' : View) (start b : ℕ) : Type 0 where
  pub kept : Kept s s'
  pub giving : (image : List ℕ) (free : ℕ → List ℕ) (used : ℕ → ℕ) (count : ℕ) → Sees s' image →
      IsUsed (mem s image) (length image) free used count b →
      IsGiving (mem s image) (mem s' image) (length image) free used count start b

-- the address of block b of n blocks, or 0 if there is no such block
abbrev pub place_of_block : ℕ → ℕ → ℕ
place_of_block n b = cond (nat_lt b n) (block_place b) 0

-- the words of a heap of n free blocks: block b is in list b mod 8, the lists ascend, and all
-- other words are 0
pub record IsEmptyHeap (xs : List ℕ) (n : ℕ) : Type 0 where
  pub size : length xs ≡ heap_words n
  pub heads : (i : ℕ) → i < LISTS → slice_index xs (FIRST_HEAD + i) ≡ place_of_block n i
  pub nexts : (b : ℕ) → b < n →
      slice_index xs (block_place b) ≡ place_of_block n (b + LISTS)
  pub others : (x : ℕ) → ((i : ℕ) → i < LISTS → x ≢ FIRST_HEAD + i) →
      ((b : ℕ) → b < n → x ≢ block_place b) → slice_index xs x ≡ 0

-- the blocks b, b + 8, b + 16 and so on below n, at most f of them
abbrev pub strided : ℕ → ℕ → ℕ → List ℕ
strided zero b n = []
strided (suc f) b n =
    cond (nat_lt b n) (block_place b ∷ strided f (b + LISTS) n) []

-- the lists of a heap of n free blocks
abbrev pub fresh_lists : ℕ → ℕ → List ℕ
fresh_lists n i = strided n i n
