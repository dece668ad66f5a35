-- Each task keeps a state balanced, and no task but a command is refused as a whole.
use Rattle.std.proofs.Common.{arith}
use Rattle.std.proofs.lemmas.Bool.Decides.{nat_tests}
use Rattle.std.proofs.Common.{◌≡◌, ℕ, Bool, true, false, cond, List, [], ◌∷◌, refl, ap, sym, subst, ◌∙◌}
use Rattle.std.specs.Prelude.{Option, Some, None, ◌&&◌, ◌||◌, is_some, length}
use Rattle.std.specs.List.{list_all}
use Rattle.vac_model.specs.declared.items.Kind.{Kind}
use Rattle.vac_model.specs.declared.items.Kind.TheVariants.{Car, Flight, Room}
use Rattle.vac_model.specs.declared.commands.Command.{Command}
use Rattle.vac_model.specs.declared.commands.Command.TheVariants as command
use Rattle.vac_model.specs.declared.tasks.Task.{Task}
use Rattle.vac_model.specs.declared.tasks.Task.TheVariants as task
use Rattle.vac_model.specs.State.{State, bookings_of}
use Rattle.vac_model.specs.Step.{Outcome, step}
use Rattle.vac_model.specs.Amounts.{is_id, is_list_length}
use Rattle.vac_model.specs.Ranges.{is_command, is_change, is_task}
use Rattle.vac_model.specs.Run.{Choice, choice_of, reserve_choice, book_choices, steps, run}
use Rattle.vac_model.specs.Balanced.{IsBalanced}
use Rattle.vac_model.proofs.Ids.{both_true}
use Rattle.vac_model.proofs.Kept.{step_follows, found_both, Follows}
use Rattle.vac_model.proofs.Choices.{HasId, choice_id}

-- a state that follows another: balanced, with the same capacity
pub record Keeps (s t : State) : Type 0 where
  pub balanced : IsBalanced t
  pub capacity : t.capacity ≡ s.capacity

both_hold : (a b : Bool) → a ≡ true → b ≡ true → (a && b) ≡ true
both_hold true b e f = f
both_hold false b e f = e

step_keeps : (s : State) (c : Command) → IsBalanced s → is_command c ≡ true → Keeps s (step s c).0
step_keeps s c balanced e = let f = step_follows s c balanced e in
    record { balanced = f.balanced; capacity = f.capacity }

then_keeps : (s t u : State) → Keeps s t → Keeps t u → Keeps s u
then_keeps s t u first next = record { balanced = next.balanced; capacity = next.capacity ∙ first.capacity }

choice_keeps : (s : State) (customer : ℕ) (kind : Kind) (choice : Option Choice) → IsBalanced s →
    is_id customer ≡ true → HasId choice
    → Keeps s (reserve_choice s customer kind choice).0
choice_keeps s customer kind None balanced e h = record { balanced = balanced; capacity = refl }
choice_keeps s customer kind (Some choice) balanced e h =
    step_keeps s (command.Reserve customer kind choice.0 1) balanced
    (both_hold (is_id customer && is_id choice.0) true (both_hold (is_id customer) (is_id choice.0) e h) refl)

book_keeps : (s : State) (customer : ℕ) (car flight room : Option Choice) → IsBalanced s → is_id customer ≡ true →
    HasId car → HasId flight → HasId room
    → Keeps s (book_choices s customer car flight room).0
book_keeps s customer car flight room balanced e hc hf hr =
    let asked = step s (command.NewCustomer customer) in
    let a = reserve_choice asked.0 customer Car car in
    let b = reserve_choice a.0 customer Flight flight in
    let first = step_keeps s (command.NewCustomer customer) balanced e in
    let second = choice_keeps asked.0 customer Car car first.balanced e hc in
    let third = choice_keeps a.0 customer Flight flight second.balanced e hf in
    let fourth = choice_keeps b.0 customer Room room third.balanced e hr in
    then_keeps s asked.0 _ first (then_keeps asked.0 a.0 _ second (then_keeps a.0 b.0 _ third fourth))

trip_keeps : (s : State) (customer : ℕ) (car flight room : Option Choice) (any : Bool) → IsBalanced s →
    is_id customer ≡ true → HasId car → HasId flight → HasId room
    → (o : Outcome) → o.0 ≡ s → Keeps s (cond any (book_choices s customer car flight room) o).0
trip_keeps s customer car flight room true balanced e hc hf hr o same =
    book_keeps s customer car flight room balanced e hc hf hr
trip_keeps s customer car flight room false balanced e hc hf hr o same =
    record { balanced = subst IsBalanced (sym same) balanced; capacity = ap (λ (t : State). t.capacity) same }

leave_follows : (s : State) (customer : ℕ) → IsBalanced s → is_id customer ≡ true →
    Follows s (run s (task.Leave customer))
leave_follows s customer balanced e =
    let dropped = step_follows s (command.DropCustomer customer) balanced e in
    found_both (Follows s) (bookings_of s customer) _ _ (λ none. record { balanced = balanced; capacity = refl })
    (λ b there. record { balanced = dropped.balanced; capacity = dropped.capacity })

steps_keep : (s : State) (cs : List Command) → IsBalanced s → list_all (λ c. is_change c && is_command c) cs ≡ true →
    Keeps s (steps s cs).0
steps_keep s [] balanced e = record { balanced = balanced; capacity = refl }
steps_keep s (c ∷ cs) balanced e = grind (
  arith,
  nat_tests,
  both_true (is_change c && is_command c)
      (list_all (λ c. is_change c && is_command c) cs) e,
  both_true (is_change c) (is_command c),
  step_keeps s c balanced,
  then_keeps s (step s c).0,
  steps_keep (step s c).0 cs,
)

-- every valid task keeps a state balanced, and its capacity
pub run_keeps : (s : State) (t : Task) → IsBalanced s → is_task t ≡ true → Keeps s (run s t).0
run_keeps s (task.One c) balanced e = step_keeps s c balanced e
run_keeps s (task.Trip customer asks) balanced e = grind (
  arith,
  nat_tests,
  both_true (is_id customer && is_list_length (length asks)),
  both_true (is_id customer) (is_list_length (length asks)),
  trip_keeps s customer (choice_of s Car asks) (choice_of s Flight asks) (choice_of s Room asks)
      (is_some (choice_of s Car asks) || is_some (choice_of s Flight asks) || is_some (choice_of s Room asks)) balanced,
  choice_id s Car asks,
  choice_id s Flight asks,
  choice_id s Room asks,
)
run_keeps s (task.Leave customer) balanced e = let f = leave_follows s customer balanced e in
    record { balanced = f.balanced; capacity = f.capacity }
run_keeps s (task.Update changes) balanced e = grind (
  arith,
  nat_tests,
  both_true (is_list_length (length changes)),
  steps_keep s changes balanced,
)
