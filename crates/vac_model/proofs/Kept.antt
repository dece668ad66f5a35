-- Each command keeps a state balanced, and its capacity.
use Rattle.std.proofs.Common.{◌≡◌, ℕ, ◌+◌, ◌-◌, ◌*◌, ◌≤◌, ◌<◌, Bool, true, false, cond, refl, ap, sym, subst, ◌∙◌}
use Rattle.std.proofs.Common.{arith}
use Rattle.std.specs.Prelude.{Option, Some, None, ◌&&◌, ◌==◌, nat_lt, nat_le, unwrap_or}
use Rattle.std.specs.Option.{option_map_or}
use Rattle.std.proofs.lemmas.Bool.Decides.{nat_tests}
use Rattle.std.proofs.Math.Nat.{mul-le-mul_left}
use Rattle.std.specs.FinMap.{get, insert, remove, len}
use Rattle.vac_model.specs.declared.items.Kind.{Kind}
use Rattle.vac_model.specs.declared.items.Kind.TheVariants.{Flight}
use Rattle.vac_model.specs.declared.items.Item.{Item}
use Rattle.vac_model.specs.declared.commands.Command.{Command}
use Rattle.vac_model.specs.declared.commands.Command.TheVariants as command
use Rattle.vac_model.specs.State.{State, Booking, Bookings, Place, table_of, item_of, with_item, bookings_of}
use Rattle.vac_model.specs.State.{with_bookings, without_customer, units_of, size, is_full}
use Rattle.vac_model.specs.Step.{Outcome, done, when_found, added, deleted, taken, given_back, new_booking, extended}
use Rattle.vac_model.specs.Step.{new_item, add_new, add_more, book_new, book_more, total_limit, unit_limit, delete}
use Rattle.vac_model.specs.Step.{drop_flight, new_customer, drop_customer, reserve, cancel, step}
use Rattle.vac_model.specs.Amounts.{is_id, is_amount, is_optional_amount, is_unit_count}
use Rattle.vac_model.specs.Ranges.{is_command}
use Rattle.vac_model.specs.Fits.{IsSmall}
use Rattle.vac_model.specs.declared.replies.Reply.{Reply}
use Rattle.vac_model.specs.Balanced.{IsBalanced}
use Rattle.vac_model.proofs.Ids.{both_true}
use Rattle.vac_model.proofs.Sums.{get_here, get_elsewhere, get_removed, removed_elsewhere, len_pushed, len_inserted}
use Rattle.vac_model.proofs.Sums.{len_removed}
use Rattle.vac_model.proofs.Places.{place_cmp_total, place_cmp-IsAntisymmetric}
use Rattle.vac_model.proofs.States.{capacity-with_table}
use Rattle.vac_model.proofs.Holdings.{units-used}
use Rattle.vac_model.proofs.Balance.{HasRange, balanced-moves, balanced-new_item, balanced-replaced}
use Rattle.vac_model.proofs.Balance.{balanced-new_customer}
use Rattle.vac_model.proofs.Departure.{balanced-without_item, balanced-departed, leaves}

-- a state that follows another: balanced, with the same capacity
pub record Follows (s : State) (o : Outcome) : Type 0 where
  pub balanced : IsBalanced o.0
  pub capacity : o.0.capacity ≡ s.capacity

-- both branches of a look-up and of a test, each with its finding
pub found_both : {X : Type 0} (P : Outcome → Type 0) (o : Option X) (missing : Outcome) (found : X → Outcome)
    → (o ≡ None → P missing) → ((x : X) → o ≡ Some x → P (found x)) → P (when_found o missing found)
found_both P None missing found miss hit = miss refl
found_both P (Some x) missing found miss hit = hit x refl

pub if_both : (P : Outcome → Type 0) (b : Bool) (x y : Outcome) → (b ≡ true → P x) → (b ≡ false → P y) → P (cond b x y)
if_both P true x y hit miss = hit refl
if_both P false x y hit miss = miss refl

pub lt_false : (a b : ℕ) → nat_lt a b ≡ false → b ≤ a
lt_false a b e = grind (arith, nat_tests)

pub le_true : (a b : ℕ) → nat_le a b ≡ true → a ≤ b
le_true a b e = grind (arith, nat_tests)

pub le_false : (a b : ℕ) → nat_le a b ≡ false → b < a
le_false a b e = grind (arith, nat_tests)

pub eq_true : (a b : ℕ) → (a == b) ≡ true → a ≡ b
eq_true a b e = grind (arith, nat_tests)

pub eq_false : (a b : ℕ) → (a == b) ≡ false → (a ≡ b → ⊥)
eq_false a b e = grind (arith, nat_tests)

-- an outcome that leaves the state
stays : (s : State) (o : Outcome) → IsBalanced s → o.0 ≡ s → Follows s o
stays s o balanced e = grind (arith, nat_tests)

put_capacity : (s : State) (kind : Kind) (id : ℕ) (item : Item) → (with_item s kind id item).capacity ≡ s.capacity
put_capacity s kind id item = capacity-with_table s kind (insert (table_of s kind) id item)

add_new_follows : (s : State) (kind : Kind) (id num : ℕ) (price : Option ℕ) → IsBalanced s → is_id id ≡ true →
    is_amount num ≡ true → is_optional_amount price ≡ true
    → item_of s kind id ≡ None → Follows s (add_new s kind id num price)
add_new_follows s kind id num None balanced ids few cheap none = stays s _ balanced refl
add_new_follows s kind id num (Some price) balanced ids few cheap none =
    grind (
      arith,
      nat_tests,
      if_both,
      stays s,
      eq_false num 0,
      le_true num 1000000 few,
      le_false s.capacity (size s),
      balanced-new_item s kind id num price balanced ids,
      le_true price 1000000 cheap,
      put_capacity s kind id (new_item num price),
    )

add_more_follows : (s : State) (kind : Kind) (id num : ℕ) (price : Option ℕ) (item : Item) → IsBalanced s →
    is_optional_amount price ≡ true
    → item_of s kind id ≡ Some item → Follows s (add_more s kind id num price item)
add_more_follows s kind id num price item balanced cheap there =
    grind (
      arith,
      nat_tests,
      if_both,
      stays s,
      balanced.items kind id item there,
      lt_false total_limit (item.total + num),
      balanced-replaced s kind id (added item num price) item balanced there,
      put_capacity s kind id (added item num price),
      le_true,
    )

delete_follows : (s : State) (kind : Kind) (id num : ℕ) → IsBalanced s → Follows s (delete s kind id num)
delete_follows s kind id num balanced =
    found_both (Follows s) (item_of s kind id) _ _ (λ none. stays s _ balanced refl) (λ item there.
    let f = balanced.items kind id item there in
    if_both (Follows s) (nat_lt item.free num) _ _ (λ short. stays s _ balanced refl) (λ enough.
    let free = lt_false item.free num enough in
    if_both (Follows s) (item.total - num == 0) _ _
    (λ all. let none_left = eq_true (item.total - num) 0 all in record {
      balanced = balanced-without_item s kind id item balanced there (omega (arith, f.counts, free, none_left));
      capacity = capacity-with_table s kind (remove (table_of s kind) id);
    })
    (λ part. let some_left = eq_false (item.total - num) 0 part in record {
      balanced = balanced-replaced s kind id (deleted item num) item balanced there refl (omega (arith, some_left))
          (omega (arith, f.few_units)) f.price_range (omega (arith, f.counts, free));
      capacity = put_capacity s kind id (deleted item num);
    })))

drop_flight_follows : (s : State) (id : ℕ) → IsBalanced s → Follows s (drop_flight s id)
drop_flight_follows s id balanced = grind (
  arith,
  nat_tests,
  found_both,
  stays s,
  if_both,
  balanced-without_item s Flight id,
  lt_false 0,
)

new_customer_follows : (s : State) (id : ℕ) → IsBalanced s → is_id id ≡ true → Follows s (new_customer s id)
new_customer_follows s id balanced ids = grind (
  arith,
  nat_tests,
  found_both,
  if_both,
  stays s,
  balanced-new_customer s id balanced ids,
  le_false s.capacity (size s),
)

drop_customer_follows : (s : State) (id : ℕ) → IsBalanced s → Follows s (drop_customer s id)
drop_customer_follows s id balanced = grind (
  arith,
  nat_tests,
  found_both,
  stays s,
  balanced-departed s id,
  leaves (without_customer s id),
)

units_found : (b : Bookings) (place : Place) (x : Booking) → get b place ≡ Some x → units_of b place ≡ x.units
units_found b place x e = ap (λ o. option_map_or {T = Booking} (λ y. y.units) o 0) e

no_units_found : (b : Bookings) (place : Place) → get b place ≡ None → units_of b place ≡ 0
no_units_found b place e = ap (λ o. option_map_or {T = Booking} (λ y. y.units) o 0) e

-- more units of an item are booked
module _ (s : State) (c : ℕ) (kind : Kind) (id num : ℕ) (b : Bookings) (item : Item) (balanced : IsBalanced s)
    (h : bookings_of s c ≡ Some b) (there : item_of s kind id ≡ Some item) (enough : num ≤ item.free) (some : 1 ≤ num)
    (few : num ≤ 100) where
  taken_follows : (x : Booking) → HasRange x → x.units ≡ units_of b (kind, id) + num →
      size s + len (insert b (kind, id) x) ≤ s.capacity + len b
      → Follows s (done (with_item (with_bookings s c (insert b (kind, id) x)) kind id (taken item num)))
  taken_follows x range units room =
      let f = balanced.items kind id item there in
      let here = get_here place_cmp_total place_cmp-IsAntisymmetric b (kind, id) x in
      let now = units_found (insert b (kind, id) x) (kind, id) x here in
      record {
        balanced = balanced-moves s c kind id b (insert b (kind, id) x) item (taken item num) balanced h there (record {
          total = refl;
          price = refl;
          counts = omega (arith, f.counts, enough);
          units = omega (arith, now, units);
          others = λ q apart. get_elsewhere place_cmp_total place_cmp-IsAntisymmetric b (kind, id) x q apart;
          range = λ y e. subst HasRange (found_same y e here) range;
          size = room;
        });
        capacity = put_capacity (with_bookings s c (insert b (kind, id) x)) kind id (taken item num);
      }
    where
      found_same : (y : Booking) → get (insert b (kind, id) x) (kind, id) ≡ Some y →
          get (insert b (kind, id) x) (kind, id) ≡ Some x → x ≡ y
      found_same y e here = ap (λ o. unwrap_or o y) (sym here ∙ e)

  book_new_follows : get b (kind, id) ≡ None → Follows s (book_new s c kind id num b item)
  book_new_follows none =
      let f = balanced.items kind id item there in
      if_both (Follows s) (is_full s) _ _ (λ full. stays s _ balanced refl) (λ room.
      let place = le_false s.capacity (size s) room in
      let longer = len_pushed place_cmp_total place_cmp-IsAntisymmetric b (kind, id)
      (new_booking num item.price) none in
      let product : num * item.price ≤ num * 1000000 = mul-le-mul_left num f.price_range in
      taken_follows (new_booking num item.price) (record {
        some_units = some;
        few_units = omega (arith, few);
        sum_range = product;
      })
      (omega (arith, no_units_found b (kind, id) none)) (omega (arith, longer, place)))

  book_more_follows : (x : Booking) → get b (kind, id) ≡ Some x → Follows s (book_more s c kind id num b item x)
  book_more_follows x found =
      let f = balanced.items kind id item there in
      let r = balanced.bookings c b kind id x h found in
      if_both (Follows s) (nat_lt unit_limit (x.units + num)) _ _ (λ over. stays s _ balanced refl) (λ under.
      let few_units = lt_false unit_limit (x.units + num) under in
      let same = len_inserted place_cmp_total place_cmp-IsAntisymmetric b (kind, id)
      (extended x num item.price) x found in
      let product : num * item.price ≤ num * 1000000 = mul-le-mul_left num f.price_range in
      let sums : (x.units + num) * 1000000 ≡ x.units * 1000000 + num * 1000000 = omega arith in
      taken_follows (extended x num item.price) (record {
        some_units = omega (arith, some);
        few_units = few_units;
        sum_range = omega (arith, product, sums, r.sum_range);
      })
      (omega (arith, units_found b (kind, id) x found)) (omega (arith, same, balanced.room)))

reserve_follows : (s : State) (c : ℕ) (kind : Kind) (id num : ℕ) → IsBalanced s → 1 ≤ num → num ≤ 100 →
    Follows s (reserve s c kind id num)
reserve_follows s c kind id num balanced some few = grind (
  arith,
  nat_tests,
  found_both,
  stays s,
  if_both,
  lt_false,
  book_new_follows s c kind id num,
  book_more_follows s c kind id num,
)

cancel_follows : (s : State) (c : ℕ) (kind : Kind) (id : ℕ) → IsBalanced s → Follows s (cancel s c kind id)
cancel_follows s c kind id balanced =
    found_both (Follows s) (bookings_of s c) _ _ (λ none. stays s _ balanced refl) (λ b h.
    found_both (Follows s) (item_of s kind id) _ _ (λ none. stays s _ balanced refl) (λ item there.
    found_both (Follows s) (get b (kind, id)) _ _ (λ none. stays s _ balanced refl) (λ x found.
    let f = balanced.items kind id item there in
    let used = units-used s c b kind id item x balanced h there found in
    let gone = get_removed place_cmp_total place_cmp-IsAntisymmetric b (kind, id) in
    let less = len_removed place_cmp_total place_cmp-IsAntisymmetric b (kind, id) x found in
    record {
      balanced = balanced-moves s c kind id b (remove b (kind, id)) item (given_back item x.units) balanced h there
          (record {
            total = refl;
            price = refl;
            counts = omega (arith, f.counts, used);
            units = omega (
              arith,
              units_found b (kind, id) x found,
              no_units_found (remove b (kind, id)) (kind, id) gone,
              used,
            );
            others = λ q apart. removed_elsewhere place_cmp_total place_cmp-IsAntisymmetric b (kind, id) q apart;
            range = λ y e. absurd (let never : None ≡ Some y = sym gone ∙ e in cc);
            size = omega (arith, less, balanced.room);
          });
      capacity = put_capacity (with_bookings s c (remove b (kind, id))) kind id (given_back item x.units);
    })))

-- every command whose numbers are in their ranges keeps a state balanced
pub step_follows : (s : State) (c : Command) → IsBalanced s → is_command c ≡ true → Follows s (step s c)
step_follows s (command.Add kind id num price) balanced e = grind (
  arith,
  nat_tests,
  both_true (is_id id && is_amount num) (is_optional_amount price) e,
  both_true (is_id id) (is_amount num),
  found_both,
  add_new_follows s kind id num price balanced,
  add_more_follows s kind id num price,
)
step_follows s (command.Delete kind id num) balanced e = delete_follows s kind id num balanced
step_follows s (command.DropFlight id) balanced e = drop_flight_follows s id balanced
step_follows s (command.NewCustomer id) balanced e = new_customer_follows s id balanced e
step_follows s (command.DropCustomer id) balanced e = drop_customer_follows s id balanced
step_follows s (command.Free kind id) balanced e = stays s _ balanced refl
step_follows s (command.Price kind id) balanced e = stays s _ balanced refl
step_follows s (command.Bill id) balanced e = stays s _ balanced refl
step_follows s (command.Reserve customer kind id num) balanced e =
    grind (
      arith,
      nat_tests,
      both_true (is_id customer && is_id id) (is_unit_count num) e,
      both_true (nat_le 1 num) (nat_le num 100),
      reserve_follows s customer kind id num balanced,
      le_true 1 num,
      le_true num 100,
    )
step_follows s (command.Cancel customer kind id) balanced e = cancel_follows s customer kind id balanced
step_follows s command.Audit balanced e = stays s _ balanced refl

-- the state after a command of a small state is small
pub small_after : (s t : State) (c : Command) (r : Reply) → IsSmall s → is_command c ≡ true → step s c ≡ (t, r) →
    IsSmall t
small_after s t c r small e is = grind (arith, nat_tests, step_follows s c small.balanced e)
