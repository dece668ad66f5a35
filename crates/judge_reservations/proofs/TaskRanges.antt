-- The parts of tasks that can be asked for can be asked for.
use Rattle.std.proofs.Common.{◌≡◌, ℕ, ◌≤◌, ◌&&◌, ◌||◌, not, Bool, true, false, cond, List, [], ◌∷◌, length, refl, ap}
use Rattle.std.proofs.Common.{arith}
use Rattle.std.proofs.Common.{subst, sym, drop}
use Rattle.std.specs.Prelude.{Option, Some, None, ⊤, IfSome, nat_le, codes}
use Rattle.std.specs.List.{list_all, filter, find, cons_option}
use Rattle.std.specs.Option.{option_map, option_and_then}
use Rattle.std.specs.Str.{bytes_eq}
use Rattle.std.proofs.lemmas.Bool.Decides.{nat_tests}
use Rattle.vac_model.specs.declared.limits.TheConstants.{MOST_PARTS}
use Rattle.vac_model.specs.declared.items.Kind.TheVariants.{Flight}
use Rattle.vac_model.specs.declared.commands.Command.{Command}
use Rattle.vac_model.specs.declared.commands.Command.TheVariants as command
use Rattle.vac_model.specs.declared.commands.Refusal.TheVariants.{Full, NotFree, InUse}
use Rattle.vac_model.specs.declared.tasks.Task.{Task}
use Rattle.vac_model.specs.declared.tasks.Task.TheVariants as task
use Rattle.vac_model.specs.Amounts.{is_id, is_amount, has_deletable_units, is_list_length}
use Rattle.vac_model.specs.Ranges.{is_change, is_command, is_task}
use Rattle.vac_model.specs.State.{Place}
use Rattle.vac_model.proofs.Ids.{both_true}
use Rattle.vac_lines.specs.Lines.{words_of}
use Rattle.judge_reservations.specs.declared.answers.AnsweredTask.{AnsweredTask}
use Rattle.judge_reservations.specs.declared.scope.Scope.{Scope}
use Rattle.judge_reservations.specs.Scopes.{has_customer, has_item, is_closed}
use Rattle.vac_model.specs.declared.replies.Reply.TheVariants as reply
use Rattle.vac_model.specs.ReplyText.{reply_text}
use Rattle.judge_reservations.specs.Tasks.{Answered, command_changes, customer_exists}
use Rattle.judge_reservations.specs.Updates.{Changed, is_why, change_part, changes_part, commands_of, shown_update}
use Rattle.judge_reservations.specs.Updates.{update_part}
use Rattle.judge_reservations.specs.Trips.{TripWords, trip_words, is_kept, word_for, has_kept_pick, kept_asks, joins}
use Rattle.judge_reservations.specs.Trips.{picked_part}
use Rattle.judge_reservations.specs.Trips.{kept_text, joined_part, shown_trip, trip_part}
use Rattle.judge_reservations.specs.Completed.{made, task_part}
use Rattle.judge_reservations.specs.Pending.{pending_part}
use Rattle.judge_reservations.proofs.Ranges.{InRange, range_if, command_range, leave_range}
use Rattle.judge_reservations.proofs.UpdateParts.{fewer, same_length}
use Rattle.judge_reservations.proofs.TripParts.{fewer_asks, all_kept}

abbrev is_part : Command → Bool
is_part c = is_change c && is_command c

-- a change that can be part of an update, if there is one
abbrev PartRange : Option Changed → Type 0
PartRange None = ⊤
PartRange (Some x) = is_part x.0 ≡ true

part_if : (b : Bool) (x y : Option Changed) → PartRange x → PartRange y → PartRange (cond b x y)
part_if true x y f g = f
part_if false x y f g = g

probe_range : (id : ℕ) → is_id id ≡ true → (is_id id && true && true) ≡ true
probe_range id e = ap (λ t. t && true && true) e

module _ (scope : Scope) where
  change_range : (c : Command) (w : List ℕ) → is_part c ≡ true → PartRange (change_part scope c w)
  change_range (command.Add kind id num price) w e =
      part_if (has_item scope (kind, id)) _ _ (part_if (is_why Full w) _ _ tt e) tt
  change_range (command.Delete kind id num) w e =
      part_if (has_item scope (kind, id)) _ _
      (part_if (is_why NotFree w && not (is_closed scope (kind, id))) _ _ (probe_range id own) e) tt
    where
      own : is_id id ≡ true
      own = (both_true (has_deletable_units kind) (is_id id)
          (both_true (has_deletable_units kind && is_id id) (is_amount num) e).0).1
  change_range (command.DropFlight id) w e =
      part_if (has_item scope (Flight, id)) _ _
      (part_if (is_why InUse w && not (is_closed scope (Flight, id))) _ _ (probe_range id e) e) tt
  change_range (command.NewCustomer id) w e = tt
  change_range (command.DropCustomer id) w e = tt
  change_range (command.Free kind id) w e = tt
  change_range (command.Price kind id) w e = tt
  change_range (command.Bill id) w e = tt
  change_range (command.Reserve customer kind id num) w e = tt
  change_range (command.Cancel customer kind id) w e = tt
  change_range command.Audit w e = tt

  part_more : (x : Option Changed) (xs : List Changed) → PartRange x → list_all is_part (commands_of xs) ≡ true →
      list_all is_part (commands_of (cons_option x xs)) ≡ true
  part_more None xs e rest = rest
  part_more (Some x) xs e rest = rw (e, rest) refl

  parts_range : (cs : List Command) (ws : List (List ℕ)) → list_all is_part cs ≡ true →
      list_all is_part (commands_of (changes_part scope cs ws)) ≡ true
  parts_range [] ws e = refl
  parts_range (c ∷ cs) [] e = refl
  parts_range (c ∷ cs) (w ∷ ws) e =
      let both = both_true (is_part c) (list_all is_part cs) e in
      part_more (change_part scope c w) (changes_part scope cs ws) (change_range c w both.0) (parts_range cs ws both.1)

  shown_range : (xs : List Changed) → length xs ≤ MOST_PARTS → list_all is_part (commands_of xs) ≡ true →
      InRange (shown_update xs)
  shown_range [] few all = tt
  shown_range (x ∷ xs) few all =
      let size = same_length scope (x ∷ xs) in
      let n = length (commands_of (x ∷ xs)) in
      let low : 1 ≤ n = omega (arith, size) in
      let high : n ≤ MOST_PARTS = omega (arith, size, few) in
      let ranged : is_list_length n ≡ true = grind (arith, nat_tests, low, high) in
      rw (ranged, all) refl

  update_range : (cs : List Command) (text : List ℕ) → is_task (task.Update cs) ≡ true →
      InRange (update_part scope cs text)
  update_range cs text e =
      let both = both_true (is_list_length (length cs)) (list_all is_part cs) e in
      let size : length cs ≤ MOST_PARTS = grind (arith, nat_tests, both.0) in
      let few = fewer scope cs (drop 1 (words_of text)) in
      shown_range (changes_part scope cs (drop 1 (words_of text))) (omega (arith, few, size))
      (parts_range cs (drop 1 (words_of text)) both.1)

  module _ (c : ℕ) (asks : List Place) (e : is_task (task.Trip c asks) ≡ true) where
    asked : (is_id c && is_list_length (length asks)) ≡ true
    asked = (both_true (is_id c && is_list_length (length asks)) (list_all (λ a. is_id a.1) asks) e).0

    own : is_id c ≡ true
    own = (both_true (is_id c) (is_list_length (length asks)) asked).0

    joined_range : (word : List ℕ) → InRange (joined_part c word)
    joined_range word = range_if (bytes_eq word (codes "cust=true"))
        (Some (task.One (command.NewCustomer c), reply_text reply.Done)) (customer_exists c) own own

    picked_range : (words : TripWords) (b : Bool) →
        (has_kept_pick scope words && nat_le 1 (length (kept_asks scope words asks))) ≡ b →
        InRange (picked_part scope c asks words)
    picked_range words true f =
        let some = (both_true (has_kept_pick scope words) (nat_le 1 (length (kept_asks scope words asks))) f).1 in
        let fewer = fewer_asks (λ ask. has_item scope ask && is_kept scope ask.0 (word_for words ask.0)) asks in
        let few = (both_true (is_id c) (is_list_length (length asks)) asked).1 in
        let most : length asks ≤ MOST_PARTS = grind (arith, nat_tests, few) in
        let size : is_list_length (length (kept_asks scope words asks)) ≡ true =
        grind (arith, nat_tests, some, fewer, most) in
        let all = all_kept (λ a. is_id a.1)
        (λ ask. has_item scope ask && is_kept scope ask.0 (word_for words ask.0)) asks
        (both_true (is_id c && is_list_length (length asks)) (list_all (λ a. is_id a.1) asks) e).1 in
        let ranged : is_task (task.Trip c (kept_asks scope words asks)) ≡ true = rw (own, size, all) refl in
        subst (λ t. InRange (cond t (Some (task.Trip c (kept_asks scope words asks), kept_text scope words))
        (joined_part c words.0))) (sym f) ranged
    picked_range words false f =
        subst (λ t. InRange (cond t (Some (task.Trip c (kept_asks scope words asks), kept_text scope words))
        (joined_part c words.0))) (sym f) (joined_range words.0)

    trip_range : (o : Option TripWords) → InRange (option_and_then (shown_trip scope c asks) o)
    trip_range None = tt
    trip_range (Some words) = range_if (has_customer scope c && joins words.0) _ _
        (picked_range words (has_kept_pick scope words && nat_le 1 (length (kept_asks scope words asks))) refl) tt

  pub task_range : (t : Task) (text : List ℕ) → is_task t ≡ true → InRange (task_part scope t text)
  task_range (task.One c) text e = command_range scope c text e
  task_range (task.Trip c asks) text e = trip_range c asks e (trip_words text)
  task_range (task.Leave c) text e = leave_range scope c text e
  task_range (task.Update cs) text e = update_range cs text e

  -- a task of which the code has made the part
  pub made_range : (a : AnsweredTask) (t : Task) (text : List ℕ) → made (Some a) ≡ task_part scope t text →
      is_task t ≡ true → is_task a.task ≡ true
  made_range a t text e h = subst InRange (sym e) (task_range t text h)

  found_range : (cs : List Command) → list_all is_part cs ≡ true →
      IfSome (find (command_changes scope) cs) (λ c. is_command c ≡ true)
  found_range [] e = tt
  found_range (c ∷ cs) e =
      let both = both_true (is_part c) (list_all is_part cs) e in
      let here = (both_true (is_change c) (is_command c) both.0).1 in
      let rest = found_range cs both.1 in
      elim (command_changes scope c) as
      (λ b. IfSome (cond b (Some c) (find (command_changes scope) cs)) (λ c. is_command c ≡ true)) [
        | true ↦ here
        | false ↦ rest
      ]

  abbrev TaskRange : Option Task → Type 0
  TaskRange o = IfSome o (λ t. is_task t ≡ true)

  task_if : (b : Bool) (t : Task) → is_task t ≡ true → TaskRange (cond b (Some t) None)
  task_if true t e = e
  task_if false t e = tt

  one_range : (o : Option Command) → IfSome o (λ c. is_command c ≡ true) → TaskRange (option_map task.One o)
  one_range None h = tt
  one_range (Some c) h = h

  pending_ranged : (t : Task) → is_task t ≡ true → TaskRange (pending_part scope t)
  pending_ranged (task.One c) e = task_if (command_changes scope c) (task.One c) e
  pending_ranged (task.Trip c asks) e = task_if (has_customer scope c) (task.One (command.NewCustomer c)) (own c asks e)
  pending_ranged (task.Leave c) e = task_if (has_customer scope c) (task.Leave c) e
  pending_ranged (task.Update cs) e =
      one_range (find (command_changes scope) cs)
      (found_range cs (both_true (is_list_length (length cs)) (list_all is_part cs) e).1)

  pub pending_range : (u t : Task) → Some u ≡ pending_part scope t → is_task t ≡ true → is_task u ≡ true
  pending_range u t e h = subst TaskRange (sym e) (pending_ranged t h)
