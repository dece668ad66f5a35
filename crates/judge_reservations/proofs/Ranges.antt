-- The part of a task that can be asked for can be asked for, and states after such tasks have parts.
use Rattle.std.proofs.Common.{◌≡◌, ℕ, ◌&&◌, ◌||◌, not, Bool, true, false, cond, List, refl, ap, arith}
use Rattle.std.specs.Prelude.{Option, Some, None, ⊤}
use Rattle.vac_model.specs.declared.items.Kind.{Kind}
use Rattle.vac_model.specs.declared.items.Kind.TheVariants.{Flight}
use Rattle.vac_model.specs.declared.commands.Command.{Command}
use Rattle.vac_model.specs.declared.commands.Command.TheVariants as command
use Rattle.vac_model.specs.declared.commands.Refusal.TheVariants.{Full, NoItem, NotFree, InUse, NoCustomer, SoldOut}
use Rattle.vac_model.specs.declared.replies.Reply.TheVariants as reply
use Rattle.vac_model.specs.declared.tasks.Task.{Task}
use Rattle.vac_model.specs.State.{State}
use Rattle.vac_model.specs.Amounts.{is_id, is_amount, is_unit_count, has_deletable_units}
use Rattle.vac_model.specs.Ranges.{is_command, is_task}
use Rattle.vac_model.specs.Run.{run}
use Rattle.vac_model.proofs.Ids.{both_true}
use Rattle.vac_model.proofs.TasksKept.{run_keeps}
use Rattle.judge_reservations.specs.declared.scope.Scope.{Scope}
use Rattle.judge_reservations.specs.Scopes.{has_customer, has_item, is_closed, is_whole}
use Rattle.judge_reservations.specs.Parts.{HasPart}
use Rattle.judge_reservations.specs.Tasks.{Answered, is_reply, customer_exists, customer_seen, item_seen}
use Rattle.judge_reservations.specs.Tasks.{command_part, leave_part}
use Rattle.judge_reservations.proofs.Effects.{Near}

-- a task that can be asked for, if there is one
abbrev pub InRange : Option Answered → Type 0
InRange None = ⊤
InRange (Some a) = is_task a.0 ≡ true

pub range_if : (b : Bool) (x y : Option Answered) → InRange x → InRange y → InRange (cond b x y)
range_if true x y f g = f
range_if false x y f g = g

pub exists_range : (c : ℕ) → is_id c ≡ true → InRange (customer_exists c)
exists_range c e = e

seen_range : (c : ℕ) (text : List ℕ) → is_id c ≡ true → InRange (customer_seen c text)
seen_range c text e = range_if (is_reply (reply.No NoCustomer) text) _ _ e e

add_range : (id : ℕ) → is_id id ≡ true → (is_id id && true && true) ≡ true
add_range id e = ap (λ t. t && true && true) e

item_range : (kind : Kind) (id : ℕ) (text : List ℕ) → is_id id ≡ true → InRange (item_seen kind id text)
item_range kind id text e =
    range_if (is_reply (reply.No NoCustomer) text) _ _ tt
    (range_if (is_reply (reply.No NoItem) text) _ _ (add_range id e) (add_range id e))

-- the part of a command that can be asked for can be asked for
pub command_range : (scope : Scope) (c : Command) (text : List ℕ) → is_command c ≡ true →
    InRange (command_part scope c text)
command_range scope (command.Add kind id num price) text e =
    range_if (has_item scope (kind, id)) _ _ (range_if (is_reply (reply.No Full) text) _ _ tt e) tt
command_range scope (command.Delete kind id num) text e =
    range_if (has_item scope (kind, id)) _ _
    (range_if (is_reply (reply.No NotFree) text && not (is_closed scope (kind, id))) _ _ (add_range id own) e) tt
  where
    own : is_id id ≡ true
    own = (both_true (has_deletable_units kind) (is_id id)
        (both_true (has_deletable_units kind && is_id id) (is_amount num) e).0).1
command_range scope (command.DropFlight id) text e =
    range_if (has_item scope (Flight, id)) _ _
    (range_if (is_reply (reply.No InUse) text && not (is_closed scope (Flight, id))) _ _ (add_range id e) e) tt
command_range scope (command.NewCustomer id) text e =
    range_if (has_customer scope id) _ _ (range_if (is_reply (reply.No Full) text) _ _ tt e) tt
command_range scope (command.DropCustomer id) text e = range_if (has_customer scope id) _ _ e tt
command_range scope (command.Free kind id) text e = range_if (is_closed scope (kind, id)) _ _ e tt
command_range scope (command.Price kind id) text e = range_if (has_item scope (kind, id)) _ _ e tt
command_range scope (command.Bill id) text e =
    range_if (has_customer scope id) _ _
    (range_if (is_whole scope id || is_reply (reply.Number None) text) _ _ e tt) tt
command_range scope (command.Reserve c kind id num) text e =
    let outer = both_true (is_id c && is_id id) (is_unit_count num) e in
    let inner = both_true (is_id c) (is_id id) outer.0 in
    range_if (has_customer scope c) _ _
    (range_if (has_item scope (kind, id)) _ _
    (range_if (is_reply (reply.No SoldOut) text && not (is_closed scope (kind, id))) _ _ inner.0
    (range_if (is_reply (reply.No Full) text) _ _ tt e)) (seen_range c text inner.0))
    (range_if (has_item scope (kind, id)) _ _ (item_range kind id text inner.1) tt)
command_range scope (command.Cancel c kind id) text e =
    let inner = both_true (is_id c) (is_id id) e in
    range_if (has_customer scope c) _ _
    (range_if (has_item scope (kind, id)) _ _ e (seen_range c text inner.0))
    (range_if (has_item scope (kind, id)) _ _ (item_range kind id text inner.1) tt)
command_range scope command.Audit text e = tt

pub leave_range : (scope : Scope) (c : ℕ) (text : List ℕ) → is_id c ≡ true → InRange (leave_part scope c text)
leave_range scope c text e =
    range_if (has_customer scope c) _ _
    (range_if (is_whole scope c || is_reply (reply.Number None) text) _ _ e e) tt

pub not_true : (b : Bool) → not b ≡ true → b ≡ false
not_true true e = absurd (let never : false ≡ true = e in cc)
not_true false e = refl

module _ (scope : Scope) where
  pub next_out : (s p : State) (t : Task) → HasPart scope s p → is_task t ≡ true → Near scope (run s t).0 p →
      HasPart scope (run s t).0 p
  next_out s p t h e near =
      let keeps = run_keeps s t h.balanced e in
      record {
        part = near.part;
        confined = near.confined;
        balanced = keeps.balanced;
        part_balanced = h.part_balanced;
        capacity = omega (arith, keeps.capacity, h.capacity);
        part_capacity = h.part_capacity;
      }

  pub next_both : (s p : State) (t u : Task) → HasPart scope s p → is_task t ≡ true → is_task u ≡ true →
      Near scope (run s t).0 (run p u).0 → HasPart scope (run s t).0 (run p u).0
  next_both s p t u h e f near =
      let keeps = run_keeps s t h.balanced e in
      let part = run_keeps p u h.part_balanced f in
      record {
        part = near.part;
        confined = near.confined;
        balanced = keeps.balanced;
        part_balanced = part.balanced;
        capacity = omega (arith, keeps.capacity, h.capacity);
        part_capacity = omega (arith, part.capacity, h.part_capacity);
      }
