-- The effect of a command on a memory that holds a state, under every possible image.
use Rattle.std.specs.Prelude.{◌≡◌, ℕ, List, [], length, Option, Some, None, true}
use Rattle.std.specs.FinMap.{empty}
use Rattle.vac_model.specs.declared.items.Kind.{Kind}
use Rattle.tx_memory.specs.View.{View, Sees, Kept}
use Rattle.vac_model.specs.declared.commands.Command.{Command}
use Rattle.vac_model.specs.declared.commands.Command.TheVariants as command
use Rattle.vac_model.specs.declared.commands.Refusal.TheVariants.{Full}
use Rattle.vac_model.specs.declared.replies.Reply.{Reply}
use Rattle.vac_model.specs.declared.replies.Reply.TheVariants as reply
use Rattle.vac_model.specs.State.{State, bookings_of, without_item, without_customer}
use Rattle.vac_model.specs.Step.{Outcome, step}
use Rattle.vac_model.specs.Ranges.{is_command}
use Rattle.vac_records.specs.Items.{mem}
use Rattle.vac_records.specs.Represents.{Represents, IsState}
use Rattle.vac_records.specs.InMemory.{HoldsState}

-- a memory of n words represents the state of an outcome, and the reply is that of the outcome
pub record IsOutcome (m : ℕ → ℕ) (n : ℕ) (o : Outcome) (r : Reply) : Type 0 where
  pub state : IsState m n o.0
  pub reply_is : o.1 ≡ r

-- if the reply is a refusal, nothing was written
abbrev pub Untouched : View → View → Reply → Type 0
Untouched s s' reply.Done = Unit {0}
Untouched s s' (reply.Number n) = Unit {0}
Untouched s s' (reply.Report report) = Unit {0}
Untouched s s' (reply.No why) = s'.writes ≡ s.writes
Untouched s s' (reply.Trip trip) = Unit {0}
Untouched s s' (reply.Update update) = Unit {0}

-- if the command has nothing to change, nothing was written: an Add of no units without a price,
-- or a Delete of no units
abbrev pub Idle : View → View → Command → Type 0
Idle s s' (command.Add kind id num price) = num ≡ 0 → price ≡ None → s'.writes ≡ s.writes
Idle s s' (command.Delete kind id num) = num ≡ 0 → s'.writes ≡ s.writes
Idle s s' (command.DropFlight id) = Unit {0}
Idle s s' (command.NewCustomer id) = Unit {0}
Idle s s' (command.DropCustomer id) = Unit {0}
Idle s s' (command.Free kind id) = Unit {0}
Idle s s' (command.Price kind id) = Unit {0}
Idle s s' (command.Bill id) = Unit {0}
Idle s s' (command.Reserve customer kind id num) = Unit {0}
Idle s s' (command.Cancel customer kind id) = Unit {0}
Idle s s' command.Audit = Unit {0}

-- under each possible image the command changed the memory as it changes the state, and the reply
-- is the command's reply. A command that is refused, or has nothing to change, writes nothing
-- Not said: which blocks new entries get, and the free list whose first block the block of a
-- removed entry becomes; tests of test_vac check both for some commands.
-- Not said: that the spare words of a block stay 0, and, if something is to change, that no word
-- is written with the value that it already has.
pub record Ran (s s' : View) (c : Command) (r : Reply) : Type 0 where
  pub kept : Kept s s'
  pub untouched : Untouched s s' r
  pub idle : Idle s s' c
  pub outcome : (image : List ℕ) (state : State) → Sees s' image →
      IsState (mem s image) (length image) state →
      IsOutcome (mem s' image) (length image) (step state c) r

-- under each possible image the reply is the command's reply, and nothing was written
pub record RanQuestion (s s' : View) (c : Command) (r : Reply) : Type 0 where
  pub ran : Ran s s' c r
  pub writes : s'.writes ≡ s.writes

-- the memory holds a state, and the command is valid
pub record CanRun (s : View) (c : Command) : Type 0 where
  pub state : HoldsState s
  pub range : is_command c ≡ true

-- the reply to a NewCustomer for a missing customer, from the block that was found, if any
abbrev pub joining : Option ℕ → Reply
joining None = reply.No Full
joining (Some block) = reply.Done

-- under each possible image the item is removed, and its block is free
pub record ItemGone (s s' : View) (kind : Kind) (id : ℕ) : Type 0 where
  pub kept : Kept s s'
  pub gone : (image : List ℕ) (state : State) → Sees s' image →
      IsState (mem s image) (length image) state →
      Represents (mem s' image) (length image) [] (without_item state kind id)

-- under each possible image the customer, who had no bookings, is removed, and the customer's
-- block is free
pub record CustomerGone (s s' : View) (id : ℕ) : Type 0 where
  pub kept : Kept s s'
  pub gone : (image : List ℕ) (state : State) → Sees s' image →
      IsState (mem s image) (length image) state → bookings_of state id ≡ Some empty →
      Represents (mem s' image) (length image) [] (without_customer state id)
