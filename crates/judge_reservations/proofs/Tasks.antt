-- Tasks that change nothing of the scope.
use Rattle.std.proofs.Common.{not, ◌≡◌, ℕ, ◌&&◌, ◌||◌, Bool, true, false, cond, List, [], ◌∷◌, refl, ap, sym, subst}
use Rattle.std.specs.Prelude.{Option, Some, None, IfSome, fold, nat_lt, ◌==◌, if◌then◌else◌, is_some, length}
use Rattle.std.specs.List.{list_all, list_any}
use Rattle.vac_model.specs.declared.items.Kind.{Kind}
use Rattle.vac_model.specs.declared.items.Kind.TheVariants.{Car, Flight, Room}
use Rattle.vac_model.specs.declared.commands.Command.{Command}
use Rattle.vac_model.specs.declared.commands.Command.TheVariants as command
use Rattle.vac_model.specs.declared.tasks.Task.{Task}
use Rattle.vac_model.specs.declared.tasks.Task.TheVariants as task
use Rattle.vac_model.specs.State.{State, Place, kind_number, bookings_of}
use Rattle.vac_model.specs.Step.{Outcome, step, price_of}
use Rattle.vac_model.specs.Amounts.{is_list_length}
use Rattle.vac_model.specs.Ranges.{is_change, is_command, is_task}
use Rattle.vac_model.specs.Run.{Choice, dearer, choice_of, reserve_choice, book_choices, steps, run}
use Rattle.vac_model.proofs.Ids.{both_true}
use Rattle.vac_model.proofs.Kept.{found_both}
use Rattle.judge_reservations.specs.declared.scope.Scope.{Scope}
use Rattle.judge_reservations.specs.Scopes.{has_customer, has_item, allows}
use Rattle.judge_reservations.specs.Tasks.{command_changes, command_allowed}
use Rattle.judge_reservations.proofs.Effects.{Near}
use Rattle.judge_reservations.proofs.Outside.{command_out}

-- tests if a task may change the part of a state
abbrev pub task_changes : Scope → Task → Bool
task_changes scope (task.One c) = command_changes scope c
task_changes scope (task.Trip customer asks) = has_customer scope customer
task_changes scope (task.Leave customer) = has_customer scope customer
task_changes scope (task.Update changes) = list_any (command_changes scope) changes

-- tests if all that a task may book leaves closed items closed and whole customers whole
abbrev pub task_allowed : Scope → Task → Bool
task_allowed scope (task.One c) = command_allowed scope c
task_allowed scope (task.Trip customer asks) = list_all (λ ask. allows scope customer ask) asks
task_allowed scope (task.Leave customer) = true
task_allowed scope (task.Update changes) = true

pub same_kind : (a b : Kind) → (kind_number a == kind_number b) ≡ true → a ≡ b
same_kind Car Car e = refl
same_kind Car Flight e = absurd (let never : false ≡ true = e in cc)
same_kind Car Room e = absurd (let never : false ≡ true = e in cc)
same_kind Flight Car e = absurd (let never : false ≡ true = e in cc)
same_kind Flight Flight e = refl
same_kind Flight Room e = absurd (let never : false ≡ true = e in cc)
same_kind Room Car e = absurd (let never : false ≡ true = e in cc)
same_kind Room Flight e = absurd (let never : false ≡ true = e in cc)
same_kind Room Room e = refl

pub both_false : (a b : Bool) → (a || b) ≡ false → (a ≡ false) × (b ≡ false)
both_false true b e = absurd (let never : true ≡ false = e in cc)
both_false false b e = (refl, e)

-- a choice that passes a test of items
module _ (ok : Place → Bool) where
  abbrev pub Passes : Kind → Option Choice → Type 0
  Passes kind o = IfSome o (λ c. ok (kind, c.0) ≡ true)

  dearer_passes : (kind : Kind) (best : Option Choice) (id : ℕ) (price : Option ℕ) → Passes kind best →
      ok (kind, id) ≡ true → Passes kind (dearer best id price)
  dearer_passes kind best id None h e = h
  dearer_passes kind None id (Some price) h e = e
  dearer_passes kind (Some best) id (Some price) h e =
      elim (nat_lt best.1 price) as (λ b. Passes kind (if b then Some (id, price) else Some best)) [
        | true ↦ e
        | false ↦ h
      ]

  chosen : (s : State) (kind : Kind) (asks : List Place) (best : Option Choice) → Passes kind best →
      list_all ok asks ≡ true
      → Passes kind (fold (λ best ask. if kind_number ask.0 == kind_number kind then dearer best ask.1
      (price_of s ask.0 ask.1) else best) best asks)
  chosen s kind [] best h e = h
  chosen s kind (ask ∷ asks) best h e =
      let both = both_true (ok ask) (list_all ok asks) e in
      chosen s kind asks _ (first (kind_number ask.0 == kind_number kind) refl both.0) both.1
    where
      first : (t : Bool) → (kind_number ask.0 == kind_number kind) ≡ t → ok ask ≡ true →
          Passes kind (if t then dearer best ask.1 (price_of s ask.0 ask.1) else best)
      first true same e = dearer_passes kind best ask.1 (price_of s ask.0 ask.1) h
          (subst (λ k. ok (k, ask.1) ≡ true) (same_kind ask.0 kind same) e)
      first false same e = h

  pub choice_passes : (s : State) (kind : Kind) (asks : List Place) → list_all ok asks ≡ true →
      Passes kind (choice_of s kind asks)
  choice_passes s kind asks e = chosen s kind asks None tt e

neither : (a b : Bool) → not b ≡ true → (a && b) ≡ false
neither true true e = absurd (let never : false ≡ true = e in cc)
neither true false e = refl
neither false b e = refl

-- a change books nothing
pub change_allowed : (scope : Scope) (c : Command) → is_change c ≡ true → command_allowed scope c ≡ true
change_allowed scope (command.Add kind id num price) e = refl
change_allowed scope (command.Delete kind id num) e = refl
change_allowed scope (command.DropFlight id) e = refl
change_allowed scope (command.NewCustomer id) e = refl
change_allowed scope (command.DropCustomer id) e = refl
change_allowed scope (command.Free kind id) e = refl
change_allowed scope (command.Price kind id) e = refl
change_allowed scope (command.Bill id) e = refl
change_allowed scope (command.Reserve customer kind id num) e = absurd (let never : false ≡ true = e in cc)
change_allowed scope (command.Cancel customer kind id) e = refl
change_allowed scope command.Audit e = refl

module _ (scope : Scope) (p : State) where
  -- a choice outside the scope leaves the part of the state as it is
  pub apart_out : (s : State) (c : ℕ) (kind : Kind) (choice : Option Choice) → Near scope s p →
      Passes (λ q. allows scope c q) kind choice → Passes (λ q. not (has_item scope q)) kind choice →
      Near scope (reserve_choice s c kind choice).0 p
  apart_out s c kind None near allowed apart = near
  apart_out s c kind (Some choice) near allowed apart =
      command_out scope s p near (command.Reserve c kind choice.0 1)
      (neither (has_customer scope c) (has_item scope (kind, choice.0)) apart) allowed

  choice_out : (s : State) (c : ℕ) (kind : Kind) (choice : Option Choice) → Near scope s p →
      has_customer scope c ≡ false → Passes (λ q. allows scope c q) kind choice →
      Near scope (reserve_choice s c kind choice).0 p
  choice_out s c kind None near stranger allowed = near
  choice_out s c kind (Some choice) near stranger allowed =
      command_out scope s p near (command.Reserve c kind choice.0 1)
      (ap (λ t. t && has_item scope (kind, choice.0)) stranger) allowed

  book_out : (s : State) (c : ℕ) (car flight room : Option Choice) → Near scope s p →
      has_customer scope c ≡ false → Passes (λ q. allows scope c q) Car car →
      Passes (λ q. allows scope c q) Flight flight → Passes (λ q. allows scope c q) Room room →
      Near scope (book_choices s c car flight room).0 p
  book_out s c car flight room near stranger first second third =
      let asked = step s (command.NewCustomer c) in
      let a = reserve_choice asked.0 c Car car in
      let b = reserve_choice a.0 c Flight flight in
      choice_out b.0 c Room room
      (choice_out a.0 c Flight flight
      (choice_out asked.0 c Car car (command_out scope s p near (command.NewCustomer c) stranger refl) stranger first)
      stranger second) stranger third

  trip_out : (s : State) (c : ℕ) (car flight room : Option Choice) (any : Bool) (o : Outcome) → o.0 ≡ s →
      Near scope s p → Near scope (book_choices s c car flight room).0 p →
      Near scope (cond any (book_choices s c car flight room) o).0 p
  trip_out s c car flight room true o same near next = next
  trip_out s c car flight room false o same near next = subst (λ x. Near scope x p) (sym same) near

  steps_out : (s : State) (cs : List Command) → Near scope s p → list_any (command_changes scope) cs ≡ false →
      list_all (λ c. is_change c && is_command c) cs ≡ true → Near scope (steps s cs).0 p
  steps_out s [] near out e = near
  steps_out s (c ∷ cs) near out e =
      let both = both_true (is_change c && is_command c) (list_all (λ c. is_change c && is_command c) cs) e in
      let this = both_true (is_change c) (is_command c) both.0 in
      let outs = both_false (command_changes scope c) (list_any (command_changes scope) cs) out in
      steps_out (step s c).0 cs (command_out scope s p near c outs.0 (change_allowed scope c this.0)) outs.1 both.1

  -- a task that changes nothing of the scope leaves the part of the state as it is
  pub task_out : (s : State) (t : Task) → Near scope s p → task_changes scope t ≡ false →
      task_allowed scope t ≡ true → is_task t ≡ true → Near scope (run s t).0 p
  task_out s (task.One c) near out allowed e = command_out scope s p near c out allowed
  task_out s (task.Trip customer asks) near out allowed e =
      trip_out s customer (choice_of s Car asks) (choice_of s Flight asks) (choice_of s Room asks)
      (is_some (choice_of s Car asks) || is_some (choice_of s Flight asks) || is_some (choice_of s Room asks))
      _ refl near (book_out s customer (choice_of s Car asks) (choice_of s Flight asks) (choice_of s Room asks) near out
      (choice_passes (λ q. allows scope customer q) s Car asks allowed)
      (choice_passes (λ q. allows scope customer q) s Flight asks allowed)
      (choice_passes (λ q. allows scope customer q) s Room asks allowed))
  task_out s (task.Leave customer) near out allowed e =
      found_both (λ o. Near scope o.0 p) (bookings_of s customer) _ _ (λ none. near)
      (λ b there. command_out scope s p near (command.DropCustomer customer) out refl)
  task_out s (task.Update changes) near out allowed e =
      let outer = both_true (is_list_length (length changes)) (list_all (λ c. is_change c && is_command c) changes) e in
      steps_out s changes near out outer.1
