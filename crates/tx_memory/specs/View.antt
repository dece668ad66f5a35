-- The view of a transactional memory, and its possible images.
use Rattle.std.specs.Prelude.{◌≡◌, ◌≢◌, ℕ, List, Some, None, slice_index, length, unwrap_or}
use Rattle.std.specs.Ordering.{nat_cmp}
use Rattle.std.specs.FinMap.{FinMap, get, insert}
use Rattle.tx_memory.specs.Image.{Has}

-- a finite map from addresses to words
abbrev pub Words : Type 0
Words = FinMap nat_cmp ℕ

-- the view of a memory: its size, the images that fit, the words that were read of the image, and
-- the words that are to be written to it
pub record View : Type 1 where
  pub size : ℕ
  pub fits : List ℕ → Type 0
  pub reads : Words
  pub writes : Words

-- the image with the writes applied, as a function from an address to its word
abbrev pub memory : List ℕ → Words → ℕ → ℕ
memory image writes address = unwrap_or (get writes address) (slice_index image address)

-- the words of a memory, if this is its image
abbrev pub mem : View → List ℕ → ℕ → ℕ
mem s image = memory image s.writes

-- the image is possible for the memory, whatever its length: the image fits and agrees with the
-- reads
pub record Sees (s : View) (image : List ℕ) : Type 0 where
  pub fits : s.fits image
  pub agrees : (address value : ℕ) → get s.reads address ≡ Some value → Has image address value

-- the image is possible for the memory and has its size
pub record RestsOn (s : View) (image : List ℕ) : Type 0 where
  pub size : length image ≡ s.size
  pub sees : Sees s image

-- each image that is possible afterwards was possible before, and the size is unchanged
pub record Kept (s s' : View) : Type 0 where
  pub size : s'.size ≡ s.size
  pub seen : (image : List ℕ) → Sees s' image → Sees s image

-- the size is unchanged, and no image fits that did not fit before
pub record SameFrame (s s' : View) : Type 0 where
  pub size : s'.size ≡ s.size
  pub fits : (image : List ℕ) → s'.fits image → s.fits image

-- a read at an address returned v: the memory's own write there, with the reads as before, or else
-- a value that entered the reads, which had no other value there
pub record HasRead (s s' : View) (address v : ℕ) : Type 0 where
  pub own : (w : ℕ) → get s.writes address ≡ Some w → (v ≡ w) × (s'.reads ≡ s.reads)
  pub entered : get s.writes address ≡ None →
      (s'.reads ≡ insert s.reads address v) × ((w : ℕ) → get s.reads address ≡ Some w → v ≡ w)

-- memory m' is m with the word at one address replaced by v
pub record IsWrite (m m' : ℕ → ℕ) (address v : ℕ) : Type 0 where
  pub here : m' address ≡ v
  pub others : (a : ℕ) → a ≢ address → m' a ≡ m a

-- a load at an address returned v, which is the word there under each possible image
pub record Loaded (s s' : View) (address v : ℕ) : Type 0 where
  pub kept : Kept s s'
  pub writes : s'.writes ≡ s.writes
  pub answer : (image : List ℕ) → Sees s' image → memory image s.writes address ≡ v

-- a store put v at an address, under each possible image, and changed no other word
pub record Stored (s s' : View) (address v : ℕ) : Type 0 where
  pub kept : Kept s s'
  pub written : (image : List ℕ) →
      IsWrite (memory image s.writes) (memory image s'.writes) address v
