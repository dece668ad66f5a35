-- The valid commands, tasks and numbers of blocks.
use Rattle.std.specs.Prelude.{ℕ, Bool, true, false, ◌&&◌, length, nat_le}
use Rattle.std.specs.List.{list_all}
use Rattle.vac_model.specs.Amounts.{is_id, is_amount, is_optional_amount, is_unit_count, has_deletable_units, is_list_length}
use Rattle.vac_model.specs.declared.commands.Command.{Command}
use Rattle.vac_model.specs.declared.commands.Command.TheVariants as command
use Rattle.vac_model.specs.declared.limits.TheConstants.{MOST_BLOCKS}
use Rattle.vac_model.specs.declared.tasks.Task.{Task}
use Rattle.vac_model.specs.declared.tasks.Task.TheVariants as task

-- true if the command is valid: its numbers are in their ranges, and it is no Delete of a flight
abbrev pub is_command : Command → Bool
is_command (command.Add kind id num price) = is_id id && is_amount num && is_optional_amount price
is_command (command.Delete kind id num) = has_deletable_units kind && is_id id && is_amount num
is_command (command.DropFlight id) = is_id id
is_command (command.NewCustomer id) = is_id id
is_command (command.DropCustomer id) = is_id id
is_command (command.Free kind id) = is_id id
is_command (command.Price kind id) = is_id id
is_command (command.Bill id) = is_id id
is_command (command.Reserve customer kind id num) = is_id customer && is_id id && is_unit_count num
is_command (command.Cancel customer kind id) = is_id customer && is_id id
is_command command.Audit = true

-- true if the command may be part of an update: an Add, a Delete or a DropFlight
abbrev pub is_change : Command → Bool
is_change (command.Add kind id num price) = true
is_change (command.Delete kind id num) = true
is_change (command.DropFlight id) = true
is_change (command.NewCustomer id) = false
is_change (command.DropCustomer id) = false
is_change (command.Free kind id) = false
is_change (command.Price kind id) = false
is_change (command.Bill id) = false
is_change (command.Reserve customer kind id num) = false
is_change (command.Cancel customer kind id) = false
is_change command.Audit = false

-- true if the task is valid: its numbers are in their ranges and its lists are not too long
abbrev pub is_task : Task → Bool
is_task (task.One c) = is_command c
is_task (task.Trip customer asks) =
    is_id customer && is_list_length (length asks) && list_all (λ a. is_id a.1) asks
is_task (task.Leave customer) = is_id customer
is_task (task.Update changes) =
    is_list_length (length changes) && list_all (λ c. is_change c && is_command c) changes

-- a system has 1 to 262,144 blocks
abbrev pub is_block_count : ℕ → Bool
is_block_count n = nat_le 1 n && nat_le n MOST_BLOCKS
