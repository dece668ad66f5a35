-- Refusals: a refused command changes nothing, and Full is returned exactly if an entry is needed
-- and none is left.
use Rattle.std.proofs.Common.{◌≡◌, ℕ, ◌+◌, ◌-◌, ◌≤◌, Bool, true, false, cond, refl, arith}
use Rattle.std.specs.Prelude.{Option, Some, None, nat_lt, ◌==◌}
use Rattle.std.specs.FinMap.{get}
use Rattle.std.proofs.lemmas.Bool.Decides.{nat_tests}
use Rattle.vac_model.specs.declared.items.Kind.{Kind}
use Rattle.vac_model.specs.declared.items.Kind.TheVariants.{Flight}
use Rattle.vac_model.specs.declared.commands.Command.{Command}
use Rattle.vac_model.specs.declared.commands.Command.TheVariants as command
use Rattle.vac_model.specs.declared.commands.Refusal.{Refusal}
use Rattle.vac_model.specs.declared.commands.Refusal.TheVariants.{NeedsCountAndPrice, TotalLimit, Full, NoItem, NotFree}
use Rattle.vac_model.specs.declared.commands.Refusal.TheVariants.{InUse, Exists, NoCustomer, SoldOut, NotBooked}
use Rattle.vac_model.specs.declared.commands.Refusal.TheVariants.{UnitLimit}
use Rattle.vac_model.specs.declared.replies.Reply.{Reply}
use Rattle.vac_model.specs.declared.replies.Reply.TheVariants as reply
use Rattle.vac_model.specs.declared.tasks.Task.{Task}
use Rattle.vac_model.specs.declared.tasks.Task.TheVariants as task
use Rattle.vac_model.specs.State.{State, item_of, bookings_of, is_full, size}
use Rattle.vac_model.specs.Step.{Outcome, step, add_new, total_limit, unit_limit}
use Rattle.vac_model.specs.Run.{run}
use Rattle.vac_model.specs.Laws.{NeedsEntry, IsOne}
use Rattle.vac_model.specs.Balanced.{IsBalanced}
use Rattle.vac_model.proofs.Kept.{found_both, if_both, le_true, eq_false, lt_false}

-- an outcome that left the state as it was if it refused
abbrev Untouched : State → Outcome → Type 0
Untouched s o = (why : Refusal) → o.1 ≡ reply.No why → o.0 ≡ s

never_done : {A : Type 0} (why : Refusal) → ◌≡◌ {A = Reply} reply.Done (reply.No why) → A
never_done why e = absurd (let never : ◌≡◌ {A = Reply} reply.Done (reply.No why) = e in cc)

add_new_untouched : (s : State) (kind : Kind) (id num : ℕ) (price : Option ℕ) →
    Untouched s (add_new s kind id num price)
add_new_untouched s kind id num None = λ why e. refl
add_new_untouched s kind id num (Some price) = grind (arith, nat_tests, if_both, never_done)

pub step_untouched : (s : State) (c : Command) → Untouched s (step s c)
step_untouched s (command.Add kind id num price) = grind (
  arith,
  nat_tests,
  found_both,
  add_new_untouched s kind id num price,
  if_both,
  never_done,
)
step_untouched s (command.Delete kind id num) = grind (arith, nat_tests, found_both, if_both, never_done)
step_untouched s (command.DropFlight id) = grind (arith, nat_tests, found_both, if_both, never_done)
step_untouched s (command.NewCustomer id) = grind (arith, nat_tests, found_both, if_both, never_done)
step_untouched s (command.DropCustomer id) = found_both (Untouched s) (bookings_of s id) _ _ (λ _ why e. refl)
    (λ b _ why e. never_done why e)
step_untouched s (command.Free kind id) = λ why e. refl
step_untouched s (command.Price kind id) = λ why e. refl
step_untouched s (command.Bill id) = λ why e. refl
step_untouched s (command.Reserve customer kind id num) = grind (arith, nat_tests, found_both, if_both, never_done)
step_untouched s (command.Cancel customer kind id) = grind (arith, nat_tests, found_both, never_done)
step_untouched s command.Audit = λ why e. refl

-- if Full was returned, an entry was needed and none was left
abbrev FullNeeds : State → Command → Outcome → Type 0
FullNeeds s c o = o.1 ≡ reply.No Full → NeedsEntry s c × (size s ≡ s.capacity)

no_room : (s : State) → IsBalanced s → is_full s ≡ true → size s ≡ s.capacity
no_room s balanced full = omega (arith, le_true s.capacity (size s) full, balanced.room)

one_unit : (num : ℕ) → (num == 0) ≡ false → 1 ≤ num
one_unit num e = omega (arith, eq_false num 0 e)

add_full : (s : State) (kind : Kind) (id num : ℕ) (price : Option ℕ) → IsBalanced s → item_of s kind id ≡ None
    → FullNeeds s (command.Add kind id num price) (add_new s kind id num price)
add_full s kind id num None balanced none = λ e. absurd (let never : ◌≡◌ {A = Reply} (reply.No NeedsCountAndPrice)
    (reply.No Full) = e in cc)
add_full s kind id num (Some price) balanced none =
    if_both (FullNeeds s (command.Add kind id num (Some price))) (num == 0) _ _
    (λ _ e. absurd (let never : ◌≡◌ {A = Reply} (reply.No NeedsCountAndPrice) (reply.No Full) = e in cc)) (λ some.
    if_both (FullNeeds s (command.Add kind id num (Some price))) (is_full s) _ _
    (λ full e. (record { missing = none; price = refl; count = one_unit num some }, no_room s balanced full))
    (λ _ e. never_done Full e))

pub step_full : (s : State) (c : Command) → IsBalanced s → FullNeeds s c (step s c)
step_full s (command.Add kind id num price) balanced =
    found_both (FullNeeds s (command.Add kind id num price)) (item_of s kind id) _ _
    (λ none. add_full s kind id num price balanced none) (λ item _.
    if_both (FullNeeds s (command.Add kind id num price)) (nat_lt total_limit (item.total + num)) _ _
    (λ _ e. absurd (let never : ◌≡◌ {A = Reply} (reply.No TotalLimit) (reply.No Full) = e in cc))
    (λ _ e. never_done Full e))
step_full s (command.Delete kind id num) balanced =
    found_both (FullNeeds s (command.Delete kind id num)) (item_of s kind id) _ _
    (λ _ e. absurd (let never : ◌≡◌ {A = Reply} (reply.No NoItem) (reply.No Full) = e in cc)) (λ item _.
    if_both (FullNeeds s (command.Delete kind id num)) (nat_lt item.free num) _ _
    (λ _ e. absurd (let never : ◌≡◌ {A = Reply} (reply.No NotFree) (reply.No Full) = e in cc)) (λ _.
    if_both (FullNeeds s (command.Delete kind id num)) (item.total - num ==
    0) _ _ (λ _ e. never_done Full e) (λ _ e. never_done Full e)))
step_full s (command.DropFlight id) balanced =
    found_both (FullNeeds s (command.DropFlight id)) (item_of s Flight id) _ _
    (λ _ e. absurd (let never : ◌≡◌ {A = Reply} (reply.No NoItem) (reply.No Full) = e in cc)) (λ item _.
    if_both (FullNeeds s (command.DropFlight id)) (nat_lt 0 item.used) _ _
    (λ _ e. absurd (let never : ◌≡◌ {A = Reply} (reply.No InUse) (reply.No Full) = e in cc)) (λ _ e. never_done Full e))
step_full s (command.NewCustomer id) balanced =
    found_both (FullNeeds s (command.NewCustomer id)) (bookings_of s id) _ _
    (λ none. if_both (FullNeeds s (command.NewCustomer id)) (is_full s) _ _ (λ full e. (none, no_room s balanced full))
    (λ _ e. never_done Full e))
    (λ b _ e. absurd (let never : ◌≡◌ {A = Reply} (reply.No Exists) (reply.No Full) = e in cc))
step_full s (command.DropCustomer id) balanced =
    found_both (FullNeeds s (command.DropCustomer id)) (bookings_of s id) _ _
    (λ _ e. absurd (let never : ◌≡◌ {A = Reply} (reply.No NoCustomer) (reply.No Full) = e in cc))
    (λ b _ e. never_done Full e)
step_full s (command.Free kind id) balanced = λ e. absurd (let never : ◌≡◌ {A = Reply} (step s (command.Free kind id)).1
    (reply.No Full) = e in cc)
step_full s (command.Price kind id) balanced = λ e. absurd (let never : ◌≡◌ {A = Reply}
    (step s (command.Price kind id)).1 (reply.No Full) = e in cc)
step_full s (command.Bill id) balanced = λ e. absurd (let never : ◌≡◌ {A = Reply} (step s (command.Bill id)).1
    (reply.No Full) = e in cc)
step_full s (command.Reserve customer kind id num) balanced =
    let c = command.Reserve customer kind id num in
    found_both (FullNeeds s c) (bookings_of s customer) _ _
    (λ _ e. absurd (let never : ◌≡◌ {A = Reply} (reply.No NoCustomer) (reply.No Full) = e in cc)) (λ b h.
    found_both (FullNeeds s c) (item_of s kind id) _ _
    (λ _ e. absurd (let never : ◌≡◌ {A = Reply} (reply.No NoItem) (reply.No Full) = e in cc)) (λ item there.
    if_both (FullNeeds s c) (nat_lt item.free num) _ _
    (λ _ e. absurd (let never : ◌≡◌ {A = Reply} (reply.No SoldOut) (reply.No Full) = e in cc)) (λ enough.
    found_both (FullNeeds s c) (get b (kind, id)) _ _
    (λ none. if_both (FullNeeds s c) (is_full s) _ _
    (λ full e. (
      record {
        bookings = b;
        item = item;
        customer = h;
        found = there;
        free = lt_false item.free num enough;
        missing = none;
      },
      no_room s balanced full,
    ))
    (λ _ e. never_done Full e))
    (λ x _. if_both (FullNeeds s c) (nat_lt unit_limit (x.units + num)) _ _
    (λ _ e. absurd (let never : ◌≡◌ {A = Reply} (reply.No UnitLimit) (reply.No Full) = e in cc))
    (λ _ e. never_done Full e)))))
step_full s (command.Cancel customer kind id) balanced =
    let c = command.Cancel customer kind id in
    found_both (FullNeeds s c) (bookings_of s customer) _ _
    (λ _ e. absurd (let never : ◌≡◌ {A = Reply} (reply.No NoCustomer) (reply.No Full) = e in cc)) (λ b _.
    found_both (FullNeeds s c) (item_of s kind id) _ _
    (λ _ e. absurd (let never : ◌≡◌ {A = Reply} (reply.No NoItem) (reply.No Full) = e in cc)) (λ item _.
    found_both (FullNeeds s c) (get b (kind, id)) _ _
    (λ _ e. absurd (let never : ◌≡◌ {A = Reply} (reply.No NotBooked) (reply.No Full) = e in cc))
    (λ x _ e. never_done Full e)))
step_full s command.Audit balanced = λ e. absurd (let never : ◌≡◌ {A = Reply} (step s command.Audit).1 (reply.No Full) =
    e in cc)

-- if an entry is needed and none is left, Full is returned
no_space : (s : State) → size s ≡ s.capacity → is_full s ≡ true
no_space s e = grind (arith, nat_tests)

pub full_step : (s : State) (c : Command) → NeedsEntry s c → size s ≡ s.capacity → (step s c).1 ≡ reply.No Full
full_step s (command.Add kind id num None) n e = absurd (let never : false ≡ true = n.price in cc)
full_step s (command.Add kind id num (Some price)) n e = grind (arith, nat_tests, no_space s e)
full_step s (command.Delete kind id num) n e = absurd n
full_step s (command.DropFlight id) n e = absurd n
full_step s (command.NewCustomer id) n e = let full : is_full s ≡ true = no_space s e in rw (n, full) refl
full_step s (command.DropCustomer id) n e = absurd n
full_step s (command.Free kind id) n e = absurd n
full_step s (command.Price kind id) n e = absurd n
full_step s (command.Bill id) n e = absurd n
full_step s (command.Reserve customer kind id num) n e = grind (arith, nat_tests, no_space s e)
full_step s (command.Cancel customer kind id) n e = absurd n
full_step s command.Audit n e = absurd n

-- no task but a command is refused as a whole
trip_answers : (any : Bool) (a b : Outcome) (why : Refusal) → ¬ (a.1 ≡ reply.No why) → ¬ (b.1 ≡ reply.No why) →
    (cond any a b).1 ≡ reply.No why → ⊥
trip_answers true a b why f g e = f e
trip_answers false a b why f g e = g e

pub run_answers : (s : State) (t : Task) (why : Refusal) → (run s t).1 ≡ reply.No why → IsOne t
run_answers s (task.One c) why = λ e. tt
run_answers s (task.Trip customer asks) why = grind (arith, nat_tests, trip_answers)
run_answers s (task.Leave customer) why = grind (arith, nat_tests, found_both)
run_answers s (task.Update changes) why = λ e. let never : ◌≡◌ {A = Reply} (run s (task.Update changes)).1
    (reply.No why) = e in cc
