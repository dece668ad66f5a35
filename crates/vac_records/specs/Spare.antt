-- The spare words of a block, which are set to 0 when the block is made an entry.
use Rattle.std.specs.Prelude.{◌≡◌, ◌⊎◌, ℕ, ◌+◌, ◌<◌, ◌≤◌, List}
use Rattle.tx_memory.specs.View.{View, Sees, Kept, IsWrite}
use Rattle.tx_alloc.specs.declared.place.TheConstants.{BLOCK_WORDS}
use Rattle.vac_records.specs.Items.{mem}

-- under each possible image the word is now 0, and all other words are as before
pub record WordCleared (s s' : View) (address : ℕ) : Type 0 where
  pub kept : Kept s s'
  pub written : (image : List ℕ) → Sees s' image → IsWrite (mem s image) (mem s' image) address 0

-- the three spare words are now 0, and all other words are as before
pub record IsCleared (m m' : ℕ → ℕ) (node : ℕ) : Type 0 where
  pub spare : (k : ℕ) → 5 ≤ k → k < BLOCK_WORDS → m' (node + k) ≡ 0
  pub others : (x : ℕ) → (x < node + 5) ⊎ (node + BLOCK_WORDS ≤ x) → m' x ≡ m x

-- under each possible image the three spare words are now 0, and all other words are as before
pub record SpareCleared (s s' : View) (node : ℕ) : Type 0 where
  pub kept : Kept s s'
  pub cleared : (image : List ℕ) → Sees s' image → IsCleared (mem s image) (mem s' image) node
