-- The part of a completed task on a scope: a task with the text of its reply, or nothing.
use Rattle.std.specs.Prelude.{ℕ, Bool, true, false, not, ◌&&◌, ◌||◌, Option, Some, None, List, if◌then◌else◌}
use Rattle.std.specs.List.{list_all}
use Rattle.std.specs.Str.{bytes_eq}
use Rattle.std.specs.Borrow.{Bor}
use Rattle.std.specs.Option.{option_map}
use Rattle.vac_model.specs.declared.items.Kind.{Kind}
use Rattle.vac_model.specs.declared.items.Kind.TheVariants.{Flight}
use Rattle.vac_model.specs.declared.commands.Command.{Command}
use Rattle.vac_model.specs.declared.commands.Command.TheVariants as command
use Rattle.vac_model.specs.declared.commands.Refusal.{Refusal}
use Rattle.vac_model.specs.declared.commands.Refusal.TheVariants.{NeedsCountAndPrice, Full, NoItem, NotFree, InUse, Exists, NoCustomer, SoldOut}
use Rattle.vac_model.specs.declared.replies.Reply.{Reply}
use Rattle.vac_model.specs.declared.replies.Reply.TheVariants as reply
use Rattle.vac_model.specs.declared.tasks.Task.{Task}
use Rattle.vac_model.specs.declared.tasks.Task.TheVariants as task
use Rattle.vac_model.specs.State.{Place}
use Rattle.vac_model.specs.ReplyText.{reply_text}
use Rattle.judge_reservations.specs.declared.scope.Scope.{Scope}
use Rattle.judge_reservations.specs.Scopes.{has_customer, has_item, is_closed, is_whole, allows}

-- a task with the text of its reply
abbrev pub Answered : Type 0
Answered = Task × List ℕ

-- a command with the text of its reply, as code has it
abbrev pub answered : Option (Command × Bor (List ℕ)) → Option Answered
answered a = option_map (λ x. (task.One x.0, x.1.now)) a

-- tests if a text is that of a reply
abbrev pub is_reply : Reply → List ℕ → Bool
is_reply r text = bytes_eq text (reply_text r)

-- a task as it is, unless no block was left
abbrev pub kept : Task → List ℕ → Option Answered
kept t text = if is_reply (reply.No Full) text then None else Some (t, text)

-- a task that shows that a customer exists, and changes nothing
abbrev pub customer_exists : ℕ → Option Answered
customer_exists c = Some (task.One (command.NewCustomer c), reply_text (reply.No Exists))

-- a task that shows that a customer is missing
abbrev pub customer_missing : ℕ → Option Answered
customer_missing c = Some (task.One (command.Bill c), reply_text (reply.Number None))

-- a task that shows that an item exists, and changes nothing
abbrev pub item_exists : Kind → ℕ → Option Answered
item_exists kind id = Some (task.One (command.Add kind id 0 None), reply_text reply.Done)

-- a task that shows that an item is missing, and changes nothing
abbrev pub item_missing : Kind → ℕ → Option Answered
item_missing kind id =
    Some (task.One (command.Add kind id 0 None), reply_text (reply.No NeedsCountAndPrice))

-- an Add concerns its item
abbrev pub add_part : Scope → Kind → ℕ → ℕ → Option ℕ → List ℕ → Option Answered
add_part scope kind id num price text =
    if has_item scope (kind, id) then kept (task.One (command.Add kind id num price)) text else None

-- a task on the units of an item that was refused for such a reason shows only that the item
-- exists, unless all customers who book the item belong to the scope
abbrev pub units_part : Scope → Place → Task → List ℕ → Refusal → Option Answered
units_part scope place t text why =
    if has_item scope place then (
    if is_reply (reply.No why) text && not (is_closed scope place)
    then item_exists place.0 place.1
    else Some (t, text)
    ) else None

-- a booking, or the end of a booking, of an item outside the scope shows if its customer exists
abbrev pub customer_seen : ℕ → List ℕ → Option Answered
customer_seen c text =
    if is_reply (reply.No NoCustomer) text then customer_missing c else customer_exists c

-- one of a customer outside the scope shows if its item exists
abbrev pub item_seen : Kind → ℕ → List ℕ → Option Answered
item_seen kind id text =
    if is_reply (reply.No NoCustomer) text then None
    else if is_reply (reply.No NoItem) text then item_missing kind id
    else item_exists kind id

-- a booking or the end of a booking, given its part if customer and item belong to the scope
abbrev pub booking_part : Scope → ℕ → Kind → ℕ → List ℕ → Option Answered → Option Answered
booking_part scope c kind id text both =
    if has_customer scope c then (
    if has_item scope (kind, id) then both else customer_seen c text
    ) else (
    if has_item scope (kind, id) then item_seen kind id text else None
    )

-- a Reserve that was refused for want of free units shows only that its customer exists, unless all
-- customers who book the item belong to the scope
abbrev pub reserve_part : Scope → ℕ → Kind → ℕ → ℕ → List ℕ → Option Answered
reserve_part scope c kind id num text =
    booking_part scope c kind id text (
    if is_reply (reply.No SoldOut) text && not (is_closed scope (kind, id)) then customer_exists c
    else kept (task.One (command.Reserve c kind id num)) text
    )

-- tests if a bill of a customer of the scope is kept: the scope has all items that the customer
-- books, or the reply shows that the customer is missing
abbrev pub keeps_bill : Scope → ℕ → List ℕ → Bool
keeps_bill scope c text = is_whole scope c || is_reply (reply.Number None) text

-- the part of a bill
abbrev pub bill_part : Scope → ℕ → List ℕ → Option Answered
bill_part scope c text =
    if has_customer scope c then (
    if keeps_bill scope c text then Some (task.One (command.Bill c), text) else None
    ) else None

-- the part of a completed command. A number of free units is kept if all customers who book the
-- item belong to the scope.
abbrev pub command_part : Scope → Command → List ℕ → Option Answered
command_part scope (command.Add kind id num price) text = add_part scope kind id num price text
command_part scope (command.Delete kind id num) text =
    units_part scope (kind, id) (task.One (command.Delete kind id num)) text NotFree
command_part scope (command.DropFlight id) text =
    units_part scope (Flight, id) (task.One (command.DropFlight id)) text InUse
command_part scope (command.NewCustomer id) text =
    if has_customer scope id then kept (task.One (command.NewCustomer id)) text else None
command_part scope (command.DropCustomer id) text =
    if has_customer scope id then Some (task.One (command.DropCustomer id), text) else None
command_part scope (command.Free kind id) text =
    if is_closed scope (kind, id) then Some (task.One (command.Free kind id), text) else None
command_part scope (command.Price kind id) text =
    if has_item scope (kind, id) then Some (task.One (command.Price kind id), text) else None
command_part scope (command.Bill id) text = bill_part scope id text
command_part scope (command.Reserve customer kind id num) text =
    reserve_part scope customer kind id num text
command_part scope (command.Cancel customer kind id) text =
    booking_part scope customer kind id text
    (Some (task.One (command.Cancel customer kind id), text))
command_part scope command.Audit text = None

-- a leave shows the bill, if the bill is kept, and else that its customer leaves
abbrev pub leave_part : Scope → ℕ → List ℕ → Option Answered
leave_part scope c text =
    if has_customer scope c then (
    if keeps_bill scope c text then Some (task.Leave c, text)
    else Some (task.One (command.DropCustomer c), reply_text reply.Done)
    ) else None

-- tests if none of these items belongs to the scope
abbrev pub are_outside : Scope → List Place → Bool
are_outside scope asks = list_all (λ ask. not (has_item scope ask)) asks

-- tests if a command may change the part of a state
abbrev pub command_changes : Scope → Command → Bool
command_changes scope (command.Add kind id num price) = has_item scope (kind, id)
command_changes scope (command.Delete kind id num) = has_item scope (kind, id)
command_changes scope (command.DropFlight id) = has_item scope (Flight, id)
command_changes scope (command.NewCustomer id) = has_customer scope id
command_changes scope (command.DropCustomer id) = has_customer scope id
command_changes scope (command.Free kind id) = false
command_changes scope (command.Price kind id) = false
command_changes scope (command.Bill id) = false
command_changes scope (command.Reserve customer kind id num) =
    has_customer scope customer && has_item scope (kind, id)
command_changes scope (command.Cancel customer kind id) =
    has_customer scope customer && has_item scope (kind, id)
command_changes scope command.Audit = false

-- tests if all that a command may book, if it takes effect, leaves closed items closed and whole
-- customers whole
abbrev pub command_allowed : Scope → Command → Bool
command_allowed scope (command.Add kind id num price) = true
command_allowed scope (command.Delete kind id num) = true
command_allowed scope (command.DropFlight id) = true
command_allowed scope (command.NewCustomer id) = true
command_allowed scope (command.DropCustomer id) = true
command_allowed scope (command.Free kind id) = true
command_allowed scope (command.Price kind id) = true
command_allowed scope (command.Bill id) = true
command_allowed scope (command.Reserve customer kind id num) = allows scope customer (kind, id)
command_allowed scope (command.Cancel customer kind id) = true
command_allowed scope command.Audit = true
