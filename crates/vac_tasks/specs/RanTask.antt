-- The effect of a task on a memory that holds a state, under every possible image.
use Rattle.std.specs.Prelude.{ℕ, List, length}
use Rattle.tx_memory.specs.View.{View, Sees, Kept}
use Rattle.vac_model.specs.declared.tasks.Task.{Task}
use Rattle.vac_model.specs.declared.replies.Reply.{Reply}
use Rattle.vac_model.specs.State.{State}
use Rattle.vac_model.specs.Run.{run}
use Rattle.vac_records.specs.Items.{mem}
use Rattle.vac_records.specs.Represents.{IsState}
use Rattle.vac_model.specs.declared.tasks.Task.TheVariants as task
use Rattle.vac_tasks.specs.Ran.{IsOutcome, Untouched, Idle}

-- if the task is a single command that was refused, nothing was written
abbrev pub UntouchedBy : View → View → Task → Reply → Type 0
UntouchedBy s s' (task.One c) r = Untouched s s' r
UntouchedBy s s' (task.Trip customer asks) r = Unit {0}
UntouchedBy s s' (task.Leave customer) r = Unit {0}
UntouchedBy s s' (task.Update changes) r = Unit {0}

-- if the task is a single command that has nothing to change, nothing was written
abbrev pub IdleBy : View → View → Task → Type 0
IdleBy s s' (task.One c) = Idle s s' c
IdleBy s s' (task.Trip customer asks) = Unit {0}
IdleBy s s' (task.Leave customer) = Unit {0}
IdleBy s s' (task.Update changes) = Unit {0}

-- under each possible image the task changed the memory as it changes the state, and the reply is
-- the task's reply. A command that is refused, or has nothing to change, writes nothing
-- Not said: how often an entry is looked up. An entry that stays is looked up once, and an entry
-- that is made or removed once more, which is read in the code.
-- Not said: that a trip that finds nothing, and a leave of a missing customer, write nothing.
pub record RanTask (s s' : View) (t : Task) (r : Reply) : Type 0 where
  pub kept : Kept s s'
  pub untouched : UntouchedBy s s' t r
  pub idle : IdleBy s s' t
  pub outcome : (image : List ℕ) (state : State) → Sees s' image →
      IsState (mem s image) (length image) state →
      IsOutcome (mem s' image) (length image) (run state t) r
