-- The images that the regions of the tests may have.
use Rattle.std.specs.Prelude.{◌≡◌, ℕ, ◌+◌, ◌<◌, List, length, slice_index}
use Rattle.tx_memory.specs.View.{View, Sees}
use Rattle.stm_attempt.specs.Leading.{Property, image_as_memory}
use Rattle.tx_alloc.specs.Steps.{mem}
use Rattle.tx_alloc.specs.Pool.{SomePool}
use Rattle.tx_tree.specs.Counted.{HasEntries, SomeEntries}

-- the property holds of the words of an image
abbrev pub Fits : Property → List ℕ → Type 0
Fits P image = P (image_as_memory image) (length image)

-- the memory has this size, and the property holds of its words under each possible image
pub record HoldsUnder (P : Property) (size : ℕ) (s : View) : Type 0 where
  pub size_is : s.size ≡ size
  pub under : (image : List ℕ) → Sees s image → P (mem s image) (length image)

-- the words are a heap of ten blocks, each free or taken
pub record IsHeapOfTen (m : ℕ → ℕ) (n : ℕ) : Type 0 where
  pub size : n ≡ 96
  pub pool : SomePool m n

-- the words are a heap of ten blocks with a table of this many entries, to which word 3 points
pub record IsTableOfTen (count : ℕ) (m : ℕ → ℕ) (n : ℕ) : Type 0 where
  pub size : n ≡ 96
  pub entries : SomeEntries m n 3 count

-- under each possible image, word 3 points to a table of this many entries in a heap of ten
-- blocks, and there are 96 words
pub record HoldsTable (s : View) (count : ℕ) : Type 0 where
  pub entries : HasEntries s 3 10 count
  pub long : (image : List ℕ) → Sees s image → length image ≡ 96

-- the words are those of a heap without a table
abbrev pub IsTableless : List ℕ → Type 0
IsTableless xs = (length xs ≡ 96) × (slice_index xs 3 ≡ 0)

-- the words that point to a table, to a list and to free blocks are 0, whatever the number of
-- words
pub record HasNulls (m : ℕ → ℕ) (n : ℕ) : Type 0 where
  pub root : m 3 ≡ 0
  pub head : m 5 ≡ 0
  pub free : (i : ℕ) → i < 8 → m (8 + i) ≡ 0
