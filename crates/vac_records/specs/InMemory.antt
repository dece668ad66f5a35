-- Memories that hold a state under every possible image.
use Rattle.std.specs.Prelude.{◌≡◌, ℕ, ◌≤◌, ◌^◌, List, length}
use Rattle.tx_memory.specs.View.{View, RestsOn, Kept}
use Rattle.vac_model.specs.State.{State}
use Rattle.vac_records.specs.Items.{mem}
use Rattle.vac_records.specs.Represents.{IsState}

-- under each possible image of the memory's size, the memory represents a balanced state.
-- Addresses fit 32 bits.
pub record HoldsState (s : View) : Type 0 where
  pub inside : 16 ≤ s.size
  pub small : s.size ≤ 2 ^ 32
  pub under : (image : List ℕ) → RestsOn s image →
      (state : State) × IsState (mem s image) (length image) state

-- only reads were made
pub record OnlyRead (s s' : View) : Type 0 where
  pub kept : Kept s s'
  pub writes : s'.writes ≡ s.writes
