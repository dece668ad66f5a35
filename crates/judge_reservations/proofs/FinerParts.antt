-- The part on a scope of a part on a finer scope is the part on the first scope. All calls of a part have parts on each
-- scope of the same customers and items.
use Rattle.std.proofs.Common.{◌≡◌, ℕ, Bool, true, false, cond, List, [], ◌∷◌, refl, ap, sym, ◌∙◌}
use Rattle.std.proofs.Common.{subst, inr, arith}
use Rattle.std.specs.Prelude.{Option, Some, None}
use Rattle.std.specs.List.{cons_option, find}
use Rattle.std.specs.Option.{option_map, option_and_then}
use Rattle.vac_model.specs.declared.limits.TheConstants.{MOST_BLOCKS}
use Rattle.vac_model.specs.declared.commands.Command.{Command}
use Rattle.vac_model.specs.declared.commands.Command.TheVariants as command
use Rattle.vac_model.specs.declared.tasks.Task.{Task}
use Rattle.vac_model.specs.declared.tasks.Task.TheVariants as task
use Rattle.vac_model.specs.State.{empty_state}
use Rattle.judge_object.specs.Call.{Call}
use Rattle.judge_object.specs.Orders.{IsLinearizable}
use Rattle.judge_reservations.specs.Reserving.{reserving}
use Rattle.judge_reservations.specs.declared.scope.Scope.{Scope}
use Rattle.judge_reservations.specs.Scopes.{has_customer, IsCoarser}
use Rattle.judge_reservations.specs.Tasks.{Answered, command_changes}
use Rattle.judge_reservations.specs.Completed.{task_part}
use Rattle.judge_reservations.specs.Pending.{pending_part}
use Rattle.judge_reservations.specs.Histories.{with_answered, with_pending, replied_part, part_of_call, part_of_history}
use Rattle.judge_reservations.specs.Laws.{PartOfPart, FinerPartsAreIllegal}
use Rattle.judge_reservations.proofs.Larger.{same_customer, same_changes}
use Rattle.judge_reservations.proofs.CutParts.{map_option}
use Rattle.judge_reservations.proofs.FinerCommands.{again, command_again, leave_again}
use Rattle.judge_reservations.proofs.FinerUpdates.{update_again}
use Rattle.judge_reservations.proofs.FinerTrips.{trip_again}
use Rattle.judge_reservations.proofs.FinerFits.{parts_have_parts}
use Rattle.judge_reservations.proofs.Numbered.{each_fits}
use Rattle.judge_reservations.proofs.Whole.{parts_linearizable}

module _ (one other : Scope) (u : IsCoarser one other) where
  task_again : (t : Task) (text : List ℕ) →
      option_and_then (again one) (task_part other t text) ≡ task_part one t text
  task_again (task.One c) text = command_again one other u c text
  task_again (task.Trip c asks) text = trip_again one other u c asks text
  task_again (task.Leave c) text = leave_again one other u c text
  task_again (task.Update cs) text = update_again one other u cs text

  -- a pending call whose reply is unknown
  kept_task : (f g : Bool) → g ≡ f → (t : Task) → pending_part one t ≡ cond g (Some t) None →
      option_and_then (pending_part one) (cond f (Some t) None) ≡ cond g (Some t) None
  kept_task true g s t e = e
  kept_task false g s t e = sym (ap (λ b. cond b (Some t) None) s)

  abbrev rest : Scope → List Command → Option Command
  rest scope cs = find (command_changes scope) cs

  found_again : (cs : List Command) →
      option_and_then (pending_part one) (option_map task.One (find (command_changes other) cs))
      ≡ option_map task.One (find (command_changes one) cs)
  found_again [] = refl
  found_again (c ∷ cs) = go (command_changes other c) (same_changes one other u c) (found_again cs)
    where
      go : (b : Bool) → command_changes one c ≡ b →
          option_and_then (pending_part one) (option_map task.One (rest other cs)) ≡ option_map task.One (rest one cs) →
          option_and_then (pending_part one) (option_map task.One (cond b (Some c) (rest other cs)))
          ≡ option_map task.One (cond (command_changes one c) (Some c) (rest one cs))
      go true e h =
          ap (λ b. cond b (Some (task.One c)) None) e
          ∙ sym (ap (λ b. option_map task.One (cond b (Some c) (rest one cs))) e)
      go false e h = h ∙ sym (ap (λ b. option_map task.One (cond b (Some c) (rest one cs))) e)

  pending_again : (t : Task) → option_and_then (pending_part one) (pending_part other t) ≡ pending_part one t
  pending_again (task.One c) =
      kept_task (command_changes other c) (command_changes one c) (same_changes one other u c) (task.One c) refl
  pending_again (task.Trip c asks) =
      kept_task (has_customer other c) (has_customer one c) (same_customer one other u c)
      (task.One (command.NewCustomer c)) refl
  pending_again (task.Leave c) =
      kept_task (has_customer other c) (has_customer one c) (same_customer one other u c) (task.Leave c) refl
  pending_again (task.Update cs) = found_again cs

  -- the part of a call
  module _ (call : Call Task) where
    pended : (o : Option Task) → option_and_then (part_of_call one) (option_map (with_pending call) o)
        ≡ option_map (with_pending call) (option_and_then (pending_part one) o)
    pended None = refl
    pended (Some t) = refl

    answered : (o : Option Answered) → option_and_then (part_of_call one) (option_map (with_answered call) o)
        ≡ option_map (with_answered call) (option_and_then (again one) o)
    answered None = refl
    answered (Some a) = refl

    replied_again : (given : Option (List ℕ)) →
        option_and_then (part_of_call one) (replied_part other call given) ≡ replied_part one call given
    replied_again None =
        pended (pending_part other call.op) ∙ ap (option_map (with_pending call)) (pending_again call.op)
    replied_again (Some text) =
        answered (task_part other call.op text) ∙ ap (option_map (with_answered call)) (task_again call.op text)

  parts_again : (calls : List (Call Task)) →
      part_of_history one (part_of_history other calls) ≡ part_of_history one calls
  parts_again [] = refl
  parts_again (c ∷ cs) =
      map_option (part_of_call one) (part_of_call other c) (part_of_history other cs)
      ∙ ap (λ o. cons_option o (part_of_history one (part_of_history other cs))) (replied_again c c.reply)
      ∙ ap (cons_option (part_of_call one c)) (parts_again cs)

pub part_of_part : (one other : Scope) → PartOfPart one other
part_of_part = parts_again

pub finer_illegal : (one other : Scope) → FinerPartsAreIllegal one other
finer_illegal one other u calls has illegal legal =
    let each = each_fits one (part_of_history other calls) (parts_have_parts one other u calls has) in
    illegal (subst (IsLinearizable reserving (empty_state MOST_BLOCKS)) (parts_again one other u calls)
    (parts_linearizable one MOST_BLOCKS (part_of_history other calls) (omega arith) each.0 (inr each.1) legal))
