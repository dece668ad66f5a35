-- The effect of a part of a task on a memory that holds a state, under every possible image.
use Rattle.std.specs.Prelude.{◌≡◌, ◌-◌, ℕ, List, ◌++◌, Option, None, length, replicate}
use Rattle.tx_memory.specs.View.{View, Sees, Kept}
use Rattle.vac_model.specs.declared.limits.TheConstants.{MOST_PARTS}
use Rattle.vac_model.specs.declared.commands.Command.{Command}
use Rattle.vac_model.specs.declared.commands.Refusal.{Refusal}
use Rattle.vac_model.specs.declared.items.Kind.{Kind}
use Rattle.vac_model.specs.State.{State}
use Rattle.vac_model.specs.Run.{steps}
use Rattle.vac_records.specs.Items.{mem}
use Rattle.vac_records.specs.Represents.{IsState}
use Rattle.vac_tasks.specs.Entries.{item_block, customer_block}

-- under each possible image the memory was changed as f changes the state, and the result is that
-- of f
pub record Runs {A : Type 0} (s s' : View) (f : State → State × A) (a : A) : Type 0 where
  pub kept : Kept s s'
  pub state : (image : List ℕ) (state : State) → Sees s' image →
      IsState (mem s image) (length image) state →
      IsState (mem s' image) (length image) (f state).0
  pub answer : (image : List ℕ) (state : State) → Sees s' image →
      IsState (mem s image) (length image) state → (f state).1 ≡ a

-- under each possible image on which the memory represents a state with the property P, the memory
-- was changed as f changes the state, and the result is that of f
pub record RunsWhere {A : Type 0} (s s' : View) (f : State → State × A) (a : A)
    (P : (m : ℕ → ℕ) (n : ℕ) (state : State) → IsState m n state → Type 0) : Type 0 where
  pub kept : Kept s s'
  pub state : (image : List ℕ) (state : State) → Sees s' image →
      (h : IsState (mem s image) (length image) state) → P (mem s image) (length image) state h →
      IsState (mem s' image) (length image) (f state).0
  pub answer : (image : List ℕ) (state : State) → Sees s' image →
      (h : IsState (mem s image) (length image) state) → P (mem s image) (length image) state h →
      (f state).1 ≡ a

-- under each possible image on which the memory represents a state with the property P, items and
-- customers are in the same blocks as before
pub record BlocksStay (s s' : View)
    (P : (m : ℕ → ℕ) (n : ℕ) (state : State) → IsState m n state → Type 0) : Type 0 where
  pub items : (image : List ℕ) (state state' : State) → Sees s' image →
      (h : IsState (mem s image) (length image) state) → P (mem s image) (length image) state h →
      (h' : IsState (mem s' image) (length image) state') →
      (kind : Kind) (id : ℕ) → item_block h' kind id ≡ item_block h kind id
  pub customers : (image : List ℕ) (state state' : State) → Sees s' image →
      (h : IsState (mem s image) (length image) state) → P (mem s image) (length image) state h →
      (h' : IsState (mem s' image) (length image) state') →
      (id : ℕ) → customer_block h' id ≡ customer_block h id

-- the state after these changes, and the refusals that an update records for them
abbrev pub changed : List Command → State → State × List (Option Refusal)
changed cs s =
    ((steps s cs).0, (steps s cs).1 ++ replicate (MOST_PARTS - length cs) None)
