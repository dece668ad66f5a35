-- Pointers: the address of a block's first word, or 0 for none.
use Rattle.std.specs.Prelude.{◌≢◌, ℕ, ◌+◌, ◌<◌, ◌≤◌, ◌^◌, List, length, Option, Some, None}
use Rattle.tx_memory.specs.View.{View, RestsOn}
use Rattle.tx_alloc.specs.Pool.{IsBlock}
use Rattle.tx_alloc.specs.Steps.{mem}
use Rattle.tx_alloc.specs.declared.place.TheConstants.{FIRST_BLOCK, BLOCK_WORDS}

-- the pointer to a block, or to none
abbrev pub pointer : Option ℕ → ℕ
pointer None = 0
pointer (Some b) = b

-- a block, if there is one, lies within the memory
abbrev pub IsWithin : View → Option ℕ → Type 0
IsWithin s None = Unit {0}
IsWithin s (Some b) = (FIRST_BLOCK ≤ b) × (b + BLOCK_WORDS ≤ s.size)

-- the word at the link is the pointer to a block, or to none
pub record LeadsToBlock (s : View) (link : ℕ) : Type 0 where
  pub small : s.size ≤ 2 ^ 32
  pub room : link < s.size
  pub under : (image : List ℕ) → RestsOn s image → mem s image link ≢ 0 →
      IsBlock (length image) (mem s image link)
