-- The part on a scope of the part of a command on a finer scope is the part of the command.
use Rattle.std.proofs.Common.{◌≡◌, ℕ, ◌&&◌, ◌||◌, not, Bool, true, false, cond, List, refl, ap, sym, ◌∙◌}
use Rattle.std.specs.Prelude.{Option, Some, None}
use Rattle.std.specs.Option.{option_and_then}
use Rattle.std.proofs.lemmas.Slice.Eq.{bytes_eq-Decides}
use Rattle.vac_model.specs.declared.items.Kind.{Kind}
use Rattle.vac_model.specs.declared.items.Kind.TheVariants.{Flight}
use Rattle.vac_model.specs.declared.commands.Command.{Command}
use Rattle.vac_model.specs.declared.commands.Command.TheVariants as command
use Rattle.vac_model.specs.declared.commands.Refusal.{Refusal}
use Rattle.vac_model.specs.declared.commands.Refusal.TheVariants.{Full, NoItem, NotFree, InUse, NoCustomer, SoldOut}
use Rattle.vac_model.specs.declared.replies.Reply.TheVariants as reply
use Rattle.vac_model.specs.declared.tasks.Task.TheVariants as task
use Rattle.vac_model.specs.State.{Place}
use Rattle.vac_model.specs.ReplyText.{reply_text}
use Rattle.judge_reservations.specs.declared.scope.Scope.{Scope}
use Rattle.judge_reservations.specs.Scopes.{has_customer, has_item, is_closed, is_whole, IsCoarser}
use Rattle.judge_reservations.specs.Tasks.{Answered, is_reply, customer_exists, customer_missing, item_exists}
use Rattle.judge_reservations.specs.Tasks.{item_missing, units_part, customer_seen, item_seen, booking_part}
use Rattle.judge_reservations.specs.Tasks.{keeps_bill, bill_part, command_part, leave_part}
use Rattle.judge_reservations.specs.Completed.{task_part}
use Rattle.judge_reservations.proofs.Larger.{no, same_customer, same_item}

-- the part of a task with its reply
abbrev pub again : Scope → Answered → Option Answered
again scope a = task_part scope a.0 a.1

-- tests
pub not_then : (a b : Bool) → (a ≡ true → b ≡ true) → b ≡ false → a ≡ false
not_then true b f e = absurd (let never : true ≡ false = sym (f refl) ∙ e in cc)
not_then false b f e = refl

and_then : (a b c : Bool) → (b ≡ true → c ≡ true) → (a && b) ≡ true → (a && c) ≡ true
and_then true b c f e = f e
and_then false b c f e = e

or_then : (a b c : Bool) → (a ≡ true → b ≡ true) → (a || c) ≡ true → (b || c) ≡ true
or_then true b c f e = ap (λ x. x || c) (f refl)
or_then false b true f e = true_or b
  where
    true_or : (b : Bool) → (b || true) ≡ true
    true_or true = refl
    true_or false = refl
or_then false b false f e = no e

pub or_true : (b : Bool) → (b || true) ≡ true
or_true true = refl
or_true false = refl

nested : {X : Type 0} (a b : Bool) (x : Option X) → cond a (cond b x None) None ≡ cond (a && b) x None
nested true b x = refl
nested false b x = refl

-- no reply has two texts
sold_not_full : (text : List ℕ) → is_reply (reply.No Full) text ≡ true → is_reply (reply.No SoldOut) text ≡ false
sold_not_full text e =
    ap (λ t. is_reply (reply.No SoldOut) t)
    ((bytes_eq-Decides text (reply_text (reply.No Full))).0 e)

module _ (one other : Scope) (u : IsCoarser one other) where
  -- a task that is kept on a condition that is weaker on the finer scope
  sub : (f g : Bool) → (g ≡ true → f ≡ true) → (a : Answered) → again one a ≡ cond g (Some a) None →
      option_and_then (again one) (cond f (Some a) None) ≡ cond g (Some a) None
  sub true g h a e = e
  sub false g h a e = sym (ap (λ b. cond b (Some a) None) (not_then g false h refl))

  -- a task that is kept on the condition that it concerns the scope, and on one that is the same on both scopes
  sub_both : (f g k : Bool) → g ≡ f → (a : Answered) → again one a ≡ cond g (cond k None (Some a)) None →
      option_and_then (again one) (cond f (cond k None (Some a)) None) ≡ cond g (cond k None (Some a)) None
  sub_both true g true s a e = sym (ap (λ b. cond b None None) s)
  sub_both true g false s a e = e
  sub_both false g k s a e = sym (ap (λ b. cond b (cond k None (Some a)) None) s)

  -- the tasks that show if a customer or an item exists
  exists_again : (c : ℕ) → has_customer one c ≡ true →
      option_and_then (again one) (customer_exists c) ≡ customer_exists c
  exists_again c e = ap (λ b. cond b (customer_exists c) None) e

  missing_again : (c : ℕ) → has_customer one c ≡ true →
      option_and_then (again one) (customer_missing c) ≡ customer_missing c
  missing_again c e =
      ap (λ b. cond b (cond (is_whole one c || true) (customer_missing c) None) None) e
      ∙ ap (λ b. cond b (customer_missing c) None) (or_true (is_whole one c))

  item_again : (kind : Kind) (id : ℕ) → has_item one (kind, id) ≡ true →
      option_and_then (again one) (item_exists kind id) ≡ item_exists kind id
  item_again kind id e = ap (λ b. cond b (item_exists kind id) None) e

  no_item_again : (kind : Kind) (id : ℕ) → has_item one (kind, id) ≡ true →
      option_and_then (again one) (item_missing kind id) ≡ item_missing kind id
  no_item_again kind id e = ap (λ b. cond b (item_missing kind id) None) e

  -- a task on the units of an item
  module _ (q : Place) (c : Command) (text : List ℕ) where
    abbrev exists : Option Answered
    exists = item_exists q.0 q.1

    abbrev as_is : Option Answered
    as_is = Some (task.One c, text)

    units_of : (h r f : Bool) → has_item one q ≡ h → (is_closed one q ≡ true → f ≡ true) →
        again one (task.One c, text) ≡ cond (has_item one q) (cond (r && not (is_closed one q)) exists as_is) None →
        option_and_then (again one) (cond h (cond (r && not f) exists as_is) None)
        ≡ cond (has_item one q) (cond (r && not (is_closed one q)) exists as_is) None
    units_of false r f e m s = sym (ap (λ b. cond b (cond (r && not (is_closed one q)) exists as_is) None) e)
    units_of true true false e m s =
        item_again q.0 q.1 e
        ∙ sym (ap (λ b. cond b (cond (not (is_closed one q)) exists as_is) None) e
        ∙ ap (λ b. cond (not b) exists as_is) (not_then (is_closed one q) false m refl))
    units_of true true true e m s = s
    units_of true false f e m s = s

    units_again : (why : Refusal) → again one (task.One c, text) ≡ units_part one q (task.One c) text why →
        option_and_then (again one) (units_part other q (task.One c) text why)
        ≡ units_part one q (task.One c) text why
    units_again why s = units_of (has_item other q) (is_reply (reply.No why) text) (is_closed other q)
        (same_item one other u q) (u.closed q) s

  -- a booking, or the end of a booking
  module _ (c : ℕ) (kind : Kind) (id : ℕ) (text : List ℕ) where
    seen_again : has_customer one c ≡ true →
        option_and_then (again one) (customer_seen c text) ≡ customer_seen c text
    seen_again e = go (is_reply (reply.No NoCustomer) text)
      where
        go : (b : Bool) → option_and_then (again one) (cond b (customer_missing c) (customer_exists c))
            ≡ cond b (customer_missing c) (customer_exists c)
        go true = missing_again c e
        go false = exists_again c e

    item_seen_again : has_item one (kind, id) ≡ true →
        option_and_then (again one) (item_seen kind id text) ≡ item_seen kind id text
    item_seen_again e = go (is_reply (reply.No NoCustomer) text) (is_reply (reply.No NoItem) text)
      where
        go : (b d : Bool) →
            option_and_then (again one) (cond b None (cond d (item_missing kind id) (item_exists kind id)))
            ≡ cond b None (cond d (item_missing kind id) (item_exists kind id))
        go true d = refl
        go false true = no_item_again kind id e
        go false false = item_again kind id e

    -- the part of a booking on a scope, given the tests for its customer and its item
    abbrev Booked : Bool → Bool → Option Answered → Option Answered
    Booked customer item both =
        cond customer (cond item both (customer_seen c text)) (cond item (item_seen kind id text) None)

    booking_again : (finer own : Option Answered) →
        (has_customer one c ≡ true → has_item one (kind, id) ≡ true → option_and_then (again one) finer ≡ own) →
        option_and_then (again one) (booking_part other c kind id text finer) ≡ booking_part one c kind id text own
    booking_again finer own inner =
        go (has_customer other c) (has_item other (kind, id)) (same_customer one other u c)
        (same_item one other u (kind, id))
      where
        is : (a b : Bool) → has_customer one c ≡ a → has_item one (kind, id) ≡ b →
            Booked a b own ≡ Booked (has_customer one c) (has_item one (kind, id)) own
        is a b e f = λ k. Booked (sym e k) (sym f k) own

        go : (a b : Bool) → has_customer one c ≡ a → has_item one (kind, id) ≡ b →
            option_and_then (again one) (Booked a b finer)
            ≡ Booked (has_customer one c) (has_item one (kind, id)) own
        go true true e f = inner e f ∙ is true true e f
        go true false e f = seen_again e ∙ is true false e f
        go false true e f = item_seen_again f ∙ is false true e f
        go false false e f = is false false e f

  module _ (c : ℕ) (kind : Kind) (id num : ℕ) (text : List ℕ) where
    abbrev reserved : Answered
    reserved = (task.One (command.Reserve c kind id num), text)

    abbrev With : Bool → Bool → Bool → Option Answered
    With sold full shut = cond (sold && not shut) (customer_exists c) (cond full None (Some reserved))

    abbrev Both : Bool → Option Answered
    Both shut = With (is_reply (reply.No SoldOut) text) (is_reply (reply.No Full) text) shut

    reserved_again : has_customer one c ≡ true → has_item one (kind, id) ≡ true →
        again one reserved ≡ Both (is_closed one (kind, id))
    reserved_again e f =
        let both = Both (is_closed one (kind, id)) in
        λ k. cond (e k) (cond (f k) both (customer_seen c text)) (cond (f k) (item_seen kind id text) None)

    both_again : (sold full shut : Bool) → (is_closed one (kind, id) ≡ true → shut ≡ true) →
        (full ≡ true → sold ≡ false) → again one reserved ≡ With sold full (is_closed one (kind, id)) →
        has_customer one c ≡ true →
        option_and_then (again one) (With sold full shut) ≡ With sold full (is_closed one (kind, id))
    both_again true full false m t s e =
        exists_again c e ∙ sym (ap (λ b. cond (not b) (customer_exists c) (cond full None (Some reserved)))
        (not_then (is_closed one (kind, id)) false m refl))
    both_again true true true m t s e = absurd (let never : true ≡ false = t refl in cc)
    both_again true false true m t s e = s
    both_again false true shut m t s e = refl
    both_again false false shut m t s e = s

    reserve_again : option_and_then (again one) (command_part other (command.Reserve c kind id num) text)
        ≡ command_part one (command.Reserve c kind id num) text
    reserve_again =
        booking_again c kind id text (Both (is_closed other (kind, id))) (Both (is_closed one (kind, id)))
        (λ e f. both_again (is_reply (reply.No SoldOut) text) (is_reply (reply.No Full) text)
        (is_closed other (kind, id)) (u.closed (kind, id)) (sold_not_full text) (reserved_again e f) e)

  cancel_again : (c : ℕ) (kind : Kind) (id : ℕ) (text : List ℕ) →
      option_and_then (again one) (command_part other (command.Cancel c kind id) text)
      ≡ command_part one (command.Cancel c kind id) text
  cancel_again c kind id text =
      let as_is : Answered = (task.One (command.Cancel c kind id), text) in
      booking_again c kind id text (Some as_is) (Some as_is)
      (λ e f. λ k. cond (e k) (cond (f k) (Some as_is) (customer_seen c text))
      (cond (f k) (item_seen kind id text) None))

  keeps_more : (c : ℕ) (text : List ℕ) → keeps_bill one c text ≡ true → keeps_bill other c text ≡ true
  keeps_more c text e = or_then (is_whole one c) (is_whole other c) (is_reply (reply.Number None) text) (u.whole c) e

  bill_again : (c : ℕ) (text : List ℕ) →
      option_and_then (again one) (bill_part other c text) ≡ bill_part one c text
  bill_again c text =
      let a : Answered = (task.One (command.Bill c), text) in
      ap (option_and_then (again one)) (nested (has_customer other c) (keeps_bill other c text) (Some a))
      ∙ sub (has_customer other c && keeps_bill other c text) (has_customer one c && keeps_bill one c text) more a
      (nested (has_customer one c) (keeps_bill one c text) (Some a))
      ∙ sym (nested (has_customer one c) (keeps_bill one c text) (Some a))
    where
      more : (has_customer one c && keeps_bill one c text) ≡ true →
          (has_customer other c && keeps_bill other c text) ≡ true
      more e =
          and_then (has_customer other c) (keeps_bill one c text) (keeps_bill other c text) (keeps_more c text)
          (sym (ap (λ b. b && keeps_bill one c text) (same_customer one other u c)) ∙ e)

  -- the part of the part of a command
  pub command_again : (c : Command) (text : List ℕ) →
      option_and_then (again one) (command_part other c text) ≡ command_part one c text
  command_again (command.Add kind id num price) text =
      sub_both (has_item other (kind, id)) (has_item one (kind, id)) (is_reply (reply.No Full) text)
      (same_item one other u (kind, id)) (task.One (command.Add kind id num price), text) refl
  command_again (command.Delete kind id num) text =
      units_again (kind, id) (command.Delete kind id num) text NotFree refl
  command_again (command.DropFlight id) text = units_again (Flight, id) (command.DropFlight id) text InUse refl
  command_again (command.NewCustomer id) text =
      sub_both (has_customer other id) (has_customer one id) (is_reply (reply.No Full) text)
      (same_customer one other u id) (task.One (command.NewCustomer id), text) refl
  command_again (command.DropCustomer id) text =
      sub (has_customer other id) (has_customer one id) (λ e. sym (same_customer one other u id) ∙ e)
      (task.One (command.DropCustomer id), text) refl
  command_again (command.Free kind id) text =
      sub (is_closed other (kind, id)) (is_closed one (kind, id)) (u.closed (kind, id))
      (task.One (command.Free kind id), text) refl
  command_again (command.Price kind id) text =
      sub (has_item other (kind, id)) (has_item one (kind, id)) (λ e. sym (same_item one other u (kind, id)) ∙ e)
      (task.One (command.Price kind id), text) refl
  command_again (command.Bill id) text = bill_again id text
  command_again (command.Reserve c kind id num) text = reserve_again c kind id num text
  command_again (command.Cancel c kind id) text = cancel_again c kind id text
  command_again command.Audit text = refl

  -- the part of the part of a leave
  module _ (c : ℕ) (text : List ℕ) where
    abbrev left : Option Answered
    left = Some (task.Leave c, text)

    abbrev gone : Option Answered
    gone = Some (task.One (command.DropCustomer c), reply_text reply.Done)

    left_again : (h k : Bool) → has_customer one c ≡ h → (keeps_bill one c text ≡ true → k ≡ true) →
        option_and_then (again one) (cond h (cond k left gone) None)
        ≡ cond (has_customer one c) (cond (keeps_bill one c text) left gone) None
    left_again false k e m = sym (ap (λ b. cond b (cond (keeps_bill one c text) left gone) None) e)
    left_again true true e m = refl
    left_again true false e m =
        ap (λ b. cond b gone None) e
        ∙ sym (ap (λ b. cond b (cond (keeps_bill one c text) left gone) None) e
        ∙ ap (λ b. cond b left gone) (not_then (keeps_bill one c text) false m refl))

    pub leave_again : option_and_then (again one) (leave_part other c text) ≡ leave_part one c text
    leave_again = left_again (has_customer other c) (keeps_bill other c text) (same_customer one other u c)
        (keeps_more c text)
