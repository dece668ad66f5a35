-- The part on a scope of a pending call whose reply is unknown: a task that has the effect of the
-- call on the scope, if the call took effect there.
use Rattle.std.specs.Prelude.{Bool, true, not, ◌&&◌, ◌||◌, Option, Some, None, nat_le, count_by, if◌then◌else◌}
use Rattle.std.specs.List.{find, list_all}
use Rattle.std.specs.Option.{option_map}
use Rattle.vac_model.specs.declared.commands.Command.TheVariants as command
use Rattle.vac_model.specs.declared.tasks.Task.{Task}
use Rattle.vac_model.specs.declared.tasks.Task.TheVariants as task
use Rattle.judge_reservations.specs.declared.scope.Scope.{Scope}
use Rattle.judge_reservations.specs.Scopes.{has_customer}
use Rattle.judge_reservations.specs.Scopes.{allows}
use Rattle.judge_reservations.specs.Tasks.{command_changes, command_allowed, are_outside}

-- the part of a pending call of this task. A trip may have added its customer, and an update may
-- have made the first of its changes that concerns the scope.
abbrev pub pending_part : Scope → Task → Option Task
pending_part scope (task.One c) = if command_changes scope c then Some (task.One c) else None
pending_part scope (task.Trip customer asks) =
    if has_customer scope customer then Some (task.One (command.NewCustomer customer)) else None
pending_part scope (task.Leave customer) =
    if has_customer scope customer then Some (task.Leave customer) else None
pending_part scope (task.Update changes) =
    option_map task.One (find (command_changes scope) changes)

-- tests if a pending call of this task has a part: the call books nothing that the scope does not
-- allow, a trip of a customer of the scope asks for no item of the scope, and an update has at most
-- one change that concerns the scope
abbrev pub pending_fits : Scope → Task → Bool
pending_fits scope (task.One c) = command_allowed scope c
pending_fits scope (task.Trip customer asks) =
    list_all (λ ask. allows scope customer ask) asks
    && (not (has_customer scope customer) || are_outside scope asks)
pending_fits scope (task.Leave customer) = true
pending_fits scope (task.Update changes) = nat_le (count_by (command_changes scope) changes) 1
