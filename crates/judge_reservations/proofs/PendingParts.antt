-- A pending call has the effect of its part on the part of the state, or none.
use Rattle.std.proofs.Common.{◌≡◌, ◌⊎◌, ℕ, ◌+◌, ◌-◌, ◌≤◌, ◌&&◌, ◌||◌, not, Bool, true, false, cond, List, [], ◌∷◌, refl}
use Rattle.std.proofs.Common.{ap}
use Rattle.std.proofs.Common.{sym, subst, ◌∙◌, inl, inr, arith, length}
use Rattle.std.specs.Prelude.{Option, Some, None, is_some, nat_lt, nat_le, ◌==◌, count_by, codes}
use Rattle.std.specs.List.{list_all, list_any, find}
use Rattle.std.specs.Option.{option_map}
use Rattle.std.specs.FinMap.{entries}
use Rattle.std.proofs.lemmas.Bool.Decides.{nat_tests}
use Rattle.std.proofs.lemmas.List.Sums.{sum_by-cons}
use Rattle.vac_model.specs.declared.items.Kind.{Kind}
use Rattle.vac_model.specs.declared.items.Kind.TheVariants.{Car, Flight, Room}
use Rattle.vac_model.specs.declared.commands.Command.{Command}
use Rattle.vac_model.specs.declared.commands.Command.TheVariants as command
use Rattle.vac_model.specs.declared.replies.Reply.TheVariants as reply
use Rattle.vac_model.specs.declared.replies.CustomerOutcome.TheVariants as joined
use Rattle.vac_model.specs.declared.commands.Refusal.TheVariants.{NoCustomer}
use Rattle.vac_model.specs.declared.tasks.Task.{Task}
use Rattle.vac_model.specs.declared.tasks.Task.TheVariants as task
use Rattle.vac_model.specs.Amounts.{is_id, is_list_length}
use Rattle.vac_model.specs.Ranges.{is_change, is_command, is_task}
use Rattle.vac_model.specs.State.{State, Place, Bookings, item_of, bookings_of, without_customer, is_full, bill_of}
use Rattle.vac_model.specs.Step.{Outcome, step, add, add_new, delete, drop_flight, new_customer, drop_customer}
use Rattle.vac_model.specs.Step.{reserve, cancel, total_limit, when_found, refused, done, number_answered}
use Rattle.vac_model.specs.Step.{give_back_all}
use Rattle.vac_model.specs.Run.{Choice, choice_of, reserve_choice, book_choices, leave, steps, run}
use Rattle.vac_model.proofs.Ids.{both_true}
use Rattle.vac_model.proofs.Kept.{found_both, if_both}
use Rattle.vac_model.specs.ReplyText.{reply_text}
use Rattle.judge_reservations.specs.declared.scope.Scope.{Scope}
use Rattle.judge_reservations.specs.Scopes.{has_customer, has_item, is_closed, is_whole, allows}
use Rattle.judge_reservations.specs.Parts.{HasPart}
use Rattle.judge_reservations.specs.Tasks.{Answered, is_reply, command_part, command_changes, command_allowed}
use Rattle.judge_reservations.specs.Tasks.{leave_part}
use Rattle.judge_reservations.specs.Tasks.{are_outside}
use Rattle.judge_reservations.specs.Pending.{pending_part, pending_fits}
use Rattle.judge_reservations.proofs.Effects.{Near}
use Rattle.judge_reservations.proofs.Outside.{reserve_cases, cancel_cases, command_out}
use Rattle.judge_reservations.proofs.Commands.{Made, near, command_made, leave_made}
use Rattle.judge_reservations.proofs.Tasks.{Passes, choice_passes, apart_out, change_allowed, task_out, both_false}
use Rattle.judge_reservations.proofs.Ranges.{next_out, next_both}

no : {X : Type 0} → false ≡ true → X
no e = absurd (let never : false ≡ true = e in cc)

-- a command that may change something took effect, or changed nothing
abbrev Either : State → Outcome → Type 0
Either s o = (o.1 ≡ reply.Done) ⊎ (o.0 ≡ s)

add_either : (s : State) (kind : Kind) (id num : ℕ) (price : Option ℕ) → Either s (add s kind id num price)
add_either s kind id num price = found_both (Either s) (item_of s kind id) _ _ (λ none. new price)
    (λ i there. if_both (Either s) (nat_lt total_limit (i.total + num)) _ _ (λ _. inr refl) (λ _. inl refl))
  where
    new : (given : Option ℕ) → Either s (add_new s kind id num given)
    new None = inr refl
    new (Some n) = if_both (Either s) (num == 0) _ _ (λ _. inr refl)
        (λ _. if_both (Either s) (is_full s) _ _ (λ _. inr refl) (λ _. inl refl))

module _ (scope : Scope) where
  changed : (s : State) (c : Command) → command_changes scope c ≡ true → Either s (step s c)
  changed s (command.Add kind id num price) e = add_either s kind id num price
  changed s (command.Delete kind id num) e = found_both (Either s) (item_of s kind id) _ _ (λ none. inr refl)
      (λ i there. if_both (Either s) (nat_lt i.free num) _ _ (λ _. inr refl)
      (λ _. if_both (Either s) (i.total - num == 0) _ _ (λ _. inl refl) (λ _. inl refl)))
  changed s (command.DropFlight id) e = found_both (Either s) (item_of s Flight id) _ _ (λ none. inr refl)
      (λ i there. if_both (Either s) (nat_lt 0 i.used) _ _ (λ _. inr refl) (λ _. inl refl))
  changed s (command.NewCustomer id) e = found_both (Either s) (bookings_of s id) _ _
      (λ none. if_both (Either s) (is_full s) _ _ (λ _. inr refl) (λ _. inl refl)) (λ b there. inr refl)
  changed s (command.DropCustomer id) e =
      found_both (Either s) (bookings_of s id) _ _ (λ none. inr refl) (λ b there. inl refl)
  changed s (command.Free kind id) e = no e
  changed s (command.Price kind id) e = no e
  changed s (command.Bill id) e = no e
  changed s (command.Reserve c kind id num) e = reserve_cases s c kind id num (Either s)
      (λ _. inr refl) (λ _ _ _. inr refl) (λ _ _ _ _ _. inr refl) (λ _ _ _ _ _. inr refl)
      (λ _ _ _ _ _ _ _. inl refl) (λ _ _ _ _ _ _ _ _. inr refl) (λ _ _ _ _ _ _ _ _. inl refl)
  changed s (command.Cancel c kind id) e = cancel_cases s c kind id (Either s)
      (λ _. inr refl) (λ _ _ _. inr refl) (λ _ _ _ _ _. inr refl) (λ _ _ _ _ _ _. inl refl)
  changed s command.Audit e = no e

  -- the part of a command that took effect
  done_part : (c : Command) → command_changes scope c ≡ true →
      command_part scope c (reply_text reply.Done) ≡ Some (task.One c, reply_text reply.Done)
  done_part (command.Add kind id num price) e = rw e refl
  done_part (command.Delete kind id num) e = rw e refl
  done_part (command.DropFlight id) e = rw e refl
  done_part (command.NewCustomer id) e = rw e refl
  done_part (command.DropCustomer id) e = rw e refl
  done_part (command.Free kind id) e = no e
  done_part (command.Price kind id) e = no e
  done_part (command.Bill id) e = no e
  done_part (command.Reserve c kind id num) e =
      let both = both_true (has_customer scope c) (has_item scope (kind, id)) e in rw (both.0, both.1) refl
  done_part (command.Cancel c kind id) e =
      let both = both_true (has_customer scope c) (has_item scope (kind, id)) e in rw (both.0, both.1) refl
  done_part command.Audit e = no e

  fair : (t : Bool) (a : Bool) → a ≡ true → (not t || a) ≡ true
  fair true a e = e
  fair false a e = refl

  -- a state follows with the effect of a task on its part, or with none
  abbrev pub Waits : State → State → Option Task → Type 0
  Waits s' p None = HasPart scope s' p
  Waits s' p (Some u) = (is_task u ≡ true) × (HasPart scope s' (run p u).0 ⊎ HasPart scope s' p)

  module _ (s p : State) (h : HasPart scope s p) where
    same_part : (s' : State) → s' ≡ s → HasPart scope s' p
    same_part s' e = subst (λ x. HasPart scope x p) (sym e) h

    -- a command that may change the part
    command_waits : (c : Command) → is_command c ≡ true → command_changes scope c ≡ true →
        command_allowed scope c ≡ true →
        HasPart scope (step s c).0 (step p c).0 ⊎ HasPart scope (step s c).0 p
    command_waits c ranged changes allowed = elim (changed s c changes) [
      | inl done ↦
          let made = command_made scope s p h c (fair (is_reply reply.Done (reply_text (step s c).1))
          (command_allowed scope c) allowed) in
          let shown = subst (λ r. Made scope s p h (step s c) (command_part scope c (reply_text r))) done made in
          let known = subst (Made scope s p h (step s c)) (done_part c changes) shown in
          inl (next_both scope s p (task.One c) (task.One c) h ranged ranged known.1)
      | inr same ↦ inr (same_part (step s c).0 same)
    ]

    command_apart : (c : Command) → is_command c ≡ true → command_changes scope c ≡ false →
        command_allowed scope c ≡ true → HasPart scope (step s c).0 p
    command_apart c ranged out allowed =
        next_out scope s p (task.One c) h ranged (command_out scope s p (near scope s p h) c out allowed)

    one_waits : (c : Command) → is_command c ≡ true → command_allowed scope c ≡ true → (b : Bool) →
        command_changes scope c ≡ b → Waits (step s c).0 p (cond b (Some (task.One c)) None)
    one_waits c ranged allowed true e = (ranged, command_waits c ranged e allowed)
    one_waits c ranged allowed false e = command_apart c ranged e allowed

    -- a leave has the effect of a leave
    leave_same : (c : ℕ) → (leave p c).0 ≡ (drop_customer p c).0
    leave_same c = go (bookings_of p c) refl
      where
        go : (o : Option Bookings) → bookings_of p c ≡ o →
            (when_found o (number_answered p None)
            (λ (b : Bookings). number_answered (drop_customer p c).0 (Some (bill_of b)))).0 ≡ (drop_customer p c).0
        go None e = sym (ap (λ (o : Option Bookings). (when_found o (refused p NoCustomer)
            (λ b. done (give_back_all (without_customer p c) (entries b)))).0) e)
        go (Some b) e = refl

    left_near : (c : ℕ) (text : List ℕ) (o : Outcome) (b : Bool) →
        Made scope s p h o (cond b (Some (task.Leave c, text))
        (Some (task.One (command.DropCustomer c), reply_text reply.Done))) → Near scope o.0 (leave p c).0
    left_near c text o true m = m.1
    left_near c text o false m = subst (Near scope o.0) (sym (leave_same c)) m.1

    leave_waits : (c : ℕ) → is_id c ≡ true → (b : Bool) → has_customer scope c ≡ b →
        Waits (leave s c).0 p (cond b (Some (task.Leave c)) None)
    leave_waits c own true e =
        let text = reply_text (leave s c).1 in
        let bill = is_whole scope c || is_reply (reply.Number None) text in
        let inside : leave_part scope c text ≡ cond bill (Some (task.Leave c, text))
        (Some (task.One (command.DropCustomer c), reply_text reply.Done)) =
        ap (λ t. cond t (cond bill (Some (task.Leave c, text))
        (Some (task.One (command.DropCustomer c), reply_text reply.Done))) None) e in
        let made = subst (Made scope s p h (leave s c)) inside (leave_made scope s p h c) in (
          own,
          inl (next_both scope s p (task.Leave c) (task.Leave c) h own own
              (left_near c text (leave s c) bill made)),
        )
    leave_waits c own false e =
        next_out scope s p (task.Leave c) h own (task_out scope p s (task.Leave c) (near scope s p h) e refl own)

  -- changes of an update
  abbrev is_part : Command → Bool
  is_part c = is_change c && is_command c

  counted : (c : Command) (cs : List Command) → count_by (command_changes scope) (c ∷ cs)
      ≡ cond (command_changes scope c) 1 0 + count_by (command_changes scope) cs
  counted c cs = sum_by-cons (λ x. cond (command_changes scope x) 1 0) c cs

  none_changes : (cs : List Command) → count_by (command_changes scope) cs ≤ 0 →
      list_any (command_changes scope) cs ≡ false
  none_changes [] e = refl
  none_changes (c ∷ cs) e = go (command_changes scope c) refl (none_changes cs)
    where
      go : (b : Bool) → command_changes scope c ≡ b →
          (count_by (command_changes scope) cs ≤ 0 → list_any (command_changes scope) cs ≡ false) →
          list_any (command_changes scope) (c ∷ cs) ≡ false
      go true f rest =
          let one : ◌≡◌ {A = ℕ} (cond (command_changes scope c) 1 0) 1 = ap (λ t. cond t 1 0) f in
          absurd (omega (arith, one, e, counted c cs))
      go false f rest =
          let zero_here : ◌≡◌ {A = ℕ} (cond (command_changes scope c) 1 0) 0 = ap (λ t. cond t 1 0) f in
          ap (λ t. t || list_any (command_changes scope) cs) f ∙ rest (omega (arith, zero_here, e, counted c cs))

  rest_apart : (s p : State) → HasPart scope s p → (cs : List Command) → list_all is_part cs ≡ true →
      list_any (command_changes scope) cs ≡ false → HasPart scope (steps s cs).0 p
  rest_apart s p h [] e out = h
  rest_apart s p h (c ∷ cs) e out =
      let both = both_true (is_part c) (list_all is_part cs) e in
      let own = both_true (is_change c) (is_command c) both.0 in
      let outs = both_false (command_changes scope c) (list_any (command_changes scope) cs) out in
      rest_apart (step s c).0 p (command_apart s p h c own.1 outs.0 (change_allowed scope c own.0)) cs both.1 outs.1

  -- an update of which at most one change concerns the scope
  update_waits : (s p : State) → HasPart scope s p → (cs : List Command) → list_all is_part cs ≡ true →
      count_by (command_changes scope) cs ≤ 1 →
      Waits (steps s cs).0 p (option_map task.One (find (command_changes scope) cs))
  update_waits s p h [] e few = h
  update_waits s p h (c ∷ cs) e few =
      go (command_changes scope c) refl (λ q. update_waits (step s c).0 p q cs both.1)
    where
      both : (is_part c ≡ true) × (list_all is_part cs ≡ true)
      both = both_true (is_part c) (list_all is_part cs) e

      own : (is_change c ≡ true) × (is_command c ≡ true)
      own = both_true (is_change c) (is_command c) both.0

      go : (b : Bool) → command_changes scope c ≡ b →
          (HasPart scope (step s c).0 p → count_by (command_changes scope) cs ≤ 1 →
          Waits (steps (step s c).0 cs).0 p (option_map task.One (find (command_changes scope) cs))) →
          Waits (steps (step s c).0 cs).0 p
          (option_map task.One (cond (command_changes scope c) (Some c) (find (command_changes scope) cs)))
      go true f rest =
          let one : ◌≡◌ {A = ℕ} (cond (command_changes scope c) 1 0) 1 = ap (λ t. cond t 1 0) f in
          let none = none_changes cs (omega (arith, one, few, counted c cs)) in
          let waits : HasPart scope (steps (step s c).0 cs).0 (step p c).0 ⊎ HasPart scope (steps (step s c).0 cs).0 p =
          elim (command_waits s p h c own.1 f (change_allowed scope c own.0)) [
            | inl done ↦ inl (rest_apart (step s c).0 (step p c).0 done cs both.1 none)
            | inr same ↦ inr (rest_apart (step s c).0 p same cs both.1 none)
          ] in
          subst (λ t. Waits (steps (step s c).0 cs).0 p
          (option_map task.One (cond t (Some c) (find (command_changes scope) cs)))) (sym f) (own.1, waits)
      go false f rest =
          let zero_here : ◌≡◌ {A = ℕ} (cond (command_changes scope c) 1 0) 0 = ap (λ t. cond t 1 0) f in
          subst (λ t. Waits (steps (step s c).0 cs).0 p
          (option_map task.One (cond t (Some c) (find (command_changes scope) cs)))) (sym f)
          (rest (command_apart s p h c own.1 f (change_allowed scope c own.0))
          (omega (arith, zero_here, few, counted c cs)))

  -- a trip of a customer of the scope for items outside the scope
  module _ (s p : State) (h : HasPart scope s p) (c : ℕ) (asks : List Place)
      (ranged : is_task (task.Trip c asks) ≡ true)
      (allowed : list_all (λ ask. allows scope c ask) asks ≡ true) where
    own_id : is_id c ≡ true
    own_id = (both_true (is_id c) (is_list_length (length asks))
        (both_true (is_id c && is_list_length (length asks)) (list_all (λ a. is_id a.1) asks) ranged).0).0

    abbrev booked : Outcome → State
    booked asked =
        let a = reserve_choice asked.0 c Car (choice_of s Car asks) in
        let b = reserve_choice a.0 c Flight (choice_of s Flight asks) in
        (reserve_choice b.0 c Room (choice_of s Room asks)).0

    module _ (outside : are_outside scope asks ≡ true) where
      passes : (kind : Kind) → Passes (λ q. allows scope c q) kind (choice_of s kind asks)
      passes kind = choice_passes (λ q. allows scope c q) s kind asks allowed

      apart : (kind : Kind) → Passes (λ q. not (has_item scope q)) kind (choice_of s kind asks)
      apart kind = choice_passes (λ q. not (has_item scope q)) s kind asks outside

      near_booked : (asked : Outcome) (q : State) → Near scope asked.0 q → Near scope (booked asked) q
      near_booked asked q next =
          let a = reserve_choice asked.0 c Car (choice_of s Car asks) in
          let b = reserve_choice a.0 c Flight (choice_of s Flight asks) in
          apart_out scope q b.0 c Room (choice_of s Room asks)
          (apart_out scope q a.0 c Flight (choice_of s Flight asks)
          (apart_out scope q asked.0 c Car (choice_of s Car asks) next (passes Car) (apart Car))
          (passes Flight) (apart Flight)) (passes Room) (apart Room)

      abbrev new : Task
      new = task.One (command.NewCustomer c)

      trip_waits : has_customer scope c ≡ true →
          HasPart scope (run s (task.Trip c asks)).0 (run p new).0 ⊎ HasPart scope (run s (task.Trip c asks)).0 p
      trip_waits inside = chosen (is_some (choice_of s Car asks) || is_some (choice_of s Flight asks)
          || is_some (choice_of s Room asks)) refl
        where
          keep : (o : Outcome) → run s (task.Trip c asks) ≡ o → Near scope o.0 p →
              HasPart scope (run s (task.Trip c asks)).0 p
          keep o is n = next_out scope s p (task.Trip c asks) h ranged
              (subst (λ (x : Outcome). Near scope x.0 p) (sym is) n)

          both : (o : Outcome) → run s (task.Trip c asks) ≡ o → Near scope o.0 (run p new).0 →
              HasPart scope (run s (task.Trip c asks)).0 (run p new).0
          both o is n = next_both scope s p (task.Trip c asks) new h ranged own_id
              (subst (λ (x : Outcome). Near scope x.0 (run p new).0) (sym is) n)

          chosen : (any : Bool) → (is_some (choice_of s Car asks) || is_some (choice_of s Flight asks)
              || is_some (choice_of s Room asks)) ≡ any →
              HasPart scope (run s (task.Trip c asks)).0 (run p new).0
              ⊎ HasPart scope (run s (task.Trip c asks)).0 p
          chosen false e = inr (keep _ (ap (λ t. cond t (book_choices s c (choice_of s Car asks)
              (choice_of s Flight asks)
              (choice_of s Room asks)) (
                s,
                reply.Trip (record {
                  joined = joined.NotAsked;
                  picks = None ∷ None ∷ None ∷ [];
                }),
              )) e)
              (near scope s p h))
          chosen true e =
              let is : run s (task.Trip c asks) ≡ book_choices s c (choice_of s Car asks) (choice_of s Flight asks)
              (choice_of s Room asks) =
              ap (λ t. cond t (book_choices s c (choice_of s Car asks) (choice_of s Flight asks)
              (choice_of s Room asks)) (
                s,
                reply.Trip (record {
                  joined = joined.NotAsked;
                  picks = None ∷ None ∷ None ∷ [];
                }),
              )) e in
              elim (command_waits s p h (command.NewCustomer c) own_id inside refl) [
                | inl done ↦ inl (both _ is (near_booked (new_customer s c) (run p new).0
                    (record { part = done.part; confined = done.confined })))
                | inr same ↦ inr (keep _ is (near_booked (new_customer s c) p
                    (record { part = same.part; confined = same.confined })))
              ]

    trip_pending : (not (has_customer scope c) || are_outside scope asks) ≡ true → (b : Bool) →
        has_customer scope c ≡ b →
        Waits (run s (task.Trip c asks)).0 p (cond b (Some (task.One (command.NewCustomer c))) None)
    trip_pending outside true e =
        (own_id, trip_waits (ap (λ t. not t || are_outside scope asks) (sym e) ∙ outside) e)
    trip_pending outside false e =
        next_out scope s p (task.Trip c asks) h ranged
        (task_out scope p s (task.Trip c asks) (near scope s p h) e allowed ranged)

  pub pending_made : (s p : State) → HasPart scope s p → (t : Task) → is_task t ≡ true →
      pending_fits scope t ≡ true → Waits (run s t).0 p (pending_part scope t)
  pending_made s p h (task.One c) e fit = one_waits s p h c e fit (command_changes scope c) refl
  pending_made s p h (task.Trip c asks) e fit =
      let both = both_true (list_all (λ ask. allows scope c ask) asks)
      (not (has_customer scope c) || are_outside scope asks) fit in
      trip_pending s p h c asks e both.0 both.1 (has_customer scope c) refl
  pending_made s p h (task.Leave c) e fit = leave_waits s p h c e (has_customer scope c) refl
  pending_made s p h (task.Update cs) e fit =
      let both = both_true (is_list_length (length cs)) (list_all is_part cs) e in
      let few : count_by (command_changes scope) cs ≤ 1 = grind (arith, nat_tests, fit) in
      update_waits s p h cs both.1 few
