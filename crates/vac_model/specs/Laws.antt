-- Statements on commands and tasks, of which the laws speak.
use Rattle.std.specs.Prelude.{◌≡◌, ℕ, ◌≤◌, ◌+◌, ◌*◌, Option, Some, None, is_some, true}
use Rattle.std.specs.FinMap.{get}
use Rattle.vac_model.specs.declared.items.Kind.{Kind}
use Rattle.vac_model.specs.declared.items.Item.{Item}
use Rattle.vac_model.specs.declared.commands.Command.{Command}
use Rattle.vac_model.specs.declared.commands.Command.TheVariants as command
use Rattle.vac_model.specs.State.{State, Bookings, item_of, bookings_of, bill_of}
use Rattle.vac_model.specs.declared.tasks.Task.{Task}
use Rattle.vac_model.specs.declared.tasks.Task.TheVariants as task

-- an Add needs an entry: its item is missing, and the command has a count and a price
pub record AddNeedsEntry (s : State) (kind : Kind) (id num : ℕ) (given : Option ℕ) : Type 0 where
  pub missing : item_of s kind id ≡ None
  pub price : is_some given ≡ true
  pub count : 1 ≤ num

-- a Reserve needs an entry: its customer exists and has no booking of the item, which has enough
-- free units
pub record ReserveNeedsEntry (s : State) (c : ℕ) (kind : Kind) (id num : ℕ) : Type 0 where
  pub bookings : Bookings
  pub item : Item
  pub customer : bookings_of s c ≡ Some bookings
  pub found : item_of s kind id ≡ Some item
  pub free : num ≤ item.free
  pub missing : get bookings (kind, id) ≡ None

-- the command needs a new entry, and no refusal that comes before Full applies
abbrev pub NeedsEntry : State → Command → Type 0
NeedsEntry s (command.Add kind id num price) = AddNeedsEntry s kind id num price
NeedsEntry s (command.Delete kind id num) = ⊥
NeedsEntry s (command.DropFlight id) = ⊥
NeedsEntry s (command.NewCustomer id) = bookings_of s id ≡ None
NeedsEntry s (command.DropCustomer id) = ⊥
NeedsEntry s (command.Free kind id) = ⊥
NeedsEntry s (command.Price kind id) = ⊥
NeedsEntry s (command.Bill id) = ⊥
NeedsEntry s (command.Reserve customer kind id num) = ReserveNeedsEntry s customer kind id num
NeedsEntry s (command.Cancel customer kind id) = ⊥
NeedsEntry s command.Audit = ⊥

-- the task is a single command
abbrev pub IsOne : Task → Type 0
IsOne (task.One c) = Unit {0}
IsOne (task.Trip customer asks) = ⊥
IsOne (task.Leave customer) = ⊥
IsOne (task.Update changes) = ⊥

-- after the reservation, the customer's bill has grown by the present price for each unit
pub record IsBilled (before : Bookings) (after : State) (customer num price : ℕ) : Type 0 where
  pub bookings : Bookings
  pub there : bookings_of after customer ≡ Some bookings
  pub bill : bill_of bookings ≡ bill_of before + num * price
