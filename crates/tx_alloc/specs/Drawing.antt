-- Taking a block, with a batch refill of an exhausted list.
use Rattle.std.specs.Prelude.{◌≡◌, ◌≢◌, ℕ, ◌+◌, ◌%◌, ◌<◌, ◌≤◌, List, [], ◌∷◌, ◌++◌, length}
use Rattle.tx_memory.specs.View.{View, Sees, Kept}
use Rattle.tx_alloc.specs.Steps.{mem}
use Rattle.tx_alloc.specs.Pool.{Free, IsBlock, IsPool, held, with_at, with_block}
use Rattle.tx_alloc.specs.declared.place.TheConstants.{LISTS, FIRST_HEAD, BLOCK_WORDS, RUN_BLOCKS}

-- b was the first block of list `from`, and is now taken. The blocks after b, up to a run of
-- RUN_BLOCKS blocks with b, are now list `start`, in their order; only the later blocks stay in
-- list `from`.
-- Not said: which words hold the two lists, except that no word of another block is written.
pub record IsRefilling (m m' : ℕ → ℕ) (n : ℕ) (free : ℕ → List ℕ) (used : ℕ → ℕ)
    (count start from b : ℕ) : Type 0 where
  pub run : List ℕ
  pub rest : List ℕ
  pub first : free from ≡ b ∷ (run ++ rest)
  pub few : length run < RUN_BLOCKS
  pub whole : length run + 1 < RUN_BLOCKS → rest ≡ []
  pub block : IsBlock n b
  pub pool : IsPool m' n (with_at (with_at free from rest) start run) (with_block used b)
      (count + 1)
  pub others : (x : ℕ) → x ≢ FIRST_HEAD + from → x ≢ FIRST_HEAD + start →
      ((a : ℕ) → 0 < held a run → x ≢ a) → m' x ≡ m x

-- b was the first block of the first list with blocks among start, start + 1 and so on, modulo 8,
-- and is now taken. If that list is not `start`, the blocks after b, up to a run of RUN_BLOCKS
-- blocks with b, are now list `start`, in their order; only the later blocks stay in their list.
pub record IsDrawing (m m' : ℕ → ℕ) (n : ℕ) (free : ℕ → List ℕ) (used : ℕ → ℕ)
    (count start b : ℕ) : Type 0 where
  pub small : start < LISTS
  pub steps : ℕ
  pub earlier : (k : ℕ) → k < steps → free ((start + k) % LISTS) ≡ []
  pub list : ℕ
  pub is_list : list ≡ (start + steps) % LISTS
  pub run : List ℕ
  pub rest : List ℕ
  pub first : free list ≡ b ∷ (run ++ rest)
  pub own : steps ≡ 0 → rest ≡ []
  pub few : steps ≢ 0 → length run < RUN_BLOCKS
  pub whole : steps ≢ 0 → length run + 1 < RUN_BLOCKS → rest ≡ []
  pub block : IsBlock n b
  pub pool : IsPool m' n (with_at (with_at free list rest) start run) (with_block used b)
      (count + 1)
  pub others : (x : ℕ) → x ≢ FIRST_HEAD + list → x ≢ FIRST_HEAD + start →
      ((a : ℕ) → 0 < held a run → x ≢ a) → m' x ≡ m x

-- under each possible image b was free, and is now taken
pub record DrawnBlock (s s' : View) (start b : ℕ) : Type 0 where
  pub kept : Kept s s'
  pub room : b + BLOCK_WORDS ≤ s'.size
  pub drawing : (image : List ℕ) (free : ℕ → List ℕ) (used : ℕ → ℕ) (count : ℕ) → Sees s' image →
      IsPool (mem s image) (length image) free used count →
      IsDrawing (mem s image) (mem s' image) (length image) free used count start b

-- b is the first block of a list, and `next` leads to the block after b
pub record Begins (s : View) (b next : ℕ) : Type 0 where
  pub list : ℕ
  pub small : list < LISTS
  pub some : b ≢ 0
  pub first : (image : List ℕ) → Sees s image → mem s image (FIRST_HEAD + list) ≡ b
  pub next_is : (image : List ℕ) → Sees s image → mem s image b ≡ next

-- list `start` is exhausted, and list `from` begins with b
pub record IsDry (s : View) (start from b next : ℕ) : Type 0 where
  pub begins : Begins s b next
  pub is_from : begins.list ≡ from
  pub small : start < LISTS
  pub apart : from ≢ start
  pub none : (image : List ℕ) → Sees s image → mem s image (FIRST_HEAD + start) ≡ 0

-- under each possible image the blocks of list `from`, up to the end of the run, moved to list
-- `start`
pub record Refilled (s s' : View) (start from b : ℕ) : Type 0 where
  pub kept : Kept s s'
  pub refilling : (image : List ℕ) (free : ℕ → List ℕ) (used : ℕ → ℕ) (count : ℕ) → Sees s' image →
      IsPool (mem s image) (length image) free used count →
      IsRefilling (mem s image) (mem s' image) (length image) free used count start from b

-- `last` is the last block of a run of a list's first blocks, and `behind` leads to the block
-- after the run
pub record IsRun (m : ℕ → ℕ) (n : ℕ) (bs : List ℕ) (last behind : ℕ) : Type 0 where
  pub front : List ℕ
  pub rest : List ℕ
  pub is : bs ≡ front ++ (last ∷ rest)
  pub few : length front < RUN_BLOCKS
  pub whole : length front + 1 < RUN_BLOCKS → rest ≡ []
  pub leads : m last ≡ behind
  pub rest_is : Free m n behind rest

-- only reads were made, and under each possible image a run of the list that begins with b was
-- walked
pub record Walked (s s' : View) (b last behind : ℕ) : Type 0 where
  pub kept : Kept s s'
  pub writes : s'.writes ≡ s.writes
  pub run : (image : List ℕ) (free : ℕ → List ℕ) (used : ℕ → ℕ) (count : ℕ) → Sees s' image →
      IsPool (mem s image) (length image) free used count → (i : ℕ) → i < LISTS →
      mem s image (FIRST_HEAD + i) ≡ b → IsRun (mem s image) (length image) (free i) last behind
