-- A command that changes nothing of the scope leaves the part of the state as it is.
use Rattle.std.proofs.Common.{◌≡◌, ℕ, ◌+◌, ◌-◌, ◌&&◌, ◌||◌, not, Bool, true, false, refl, ap, sym}
use Rattle.std.proofs.Common.{◌∙◌}
use Rattle.std.specs.Prelude.{Option, Some, None, nat_lt, ◌==◌}
use Rattle.std.specs.Option.{option_map}
use Rattle.std.specs.FinMap.{get, insert, remove, entries}
use Rattle.vac_model.specs.declared.items.Kind.{Kind}
use Rattle.vac_model.specs.declared.items.Kind.TheVariants.{Flight}
use Rattle.vac_model.specs.declared.items.Item.{Item}
use Rattle.vac_model.specs.declared.commands.Command.{Command}
use Rattle.vac_model.specs.declared.commands.Command.TheVariants as command
use Rattle.vac_model.specs.declared.commands.Refusal.TheVariants.{Full, NoItem}
use Rattle.vac_model.specs.declared.commands.Refusal.TheVariants.{NoCustomer, SoldOut, NotBooked, UnitLimit}
use Rattle.vac_model.specs.declared.items.Booking.{Booking}
use Rattle.vac_model.specs.State.{State, Bookings, item_of, with_item}
use Rattle.vac_model.specs.State.{bookings_of, with_bookings, without_customer, is_full, units_of}
use Rattle.vac_model.specs.Step.{Outcome, refused, done, new_item, added, deleted, taken}
use Rattle.vac_model.specs.Step.{given_back, give_back_all, new_booking, extended, add_new, add, delete}
use Rattle.vac_model.specs.Step.{drop_flight, new_customer, drop_customer, reserve, cancel, step, total_limit}
use Rattle.vac_model.specs.Step.{unit_limit}
use Rattle.vac_model.proofs.Ids.{both_true}
use Rattle.vac_model.proofs.Kept.{found_both, if_both}
use Rattle.vac_model.proofs.Sums.{get_elsewhere, get_removed, removed_elsewhere}
use Rattle.vac_model.proofs.Places.{place_cmp_total, place_cmp-IsAntisymmetric}
use Rattle.vac_model.proofs.States.{item_of-with_bookings}
use Rattle.vac_model.proofs.Departure.{leaves, item_of-departed, lowered}
use Rattle.judge_reservations.specs.declared.scope.Scope.{Scope}
use Rattle.judge_reservations.specs.Scopes.{has_customer, has_item, is_closed, is_whole, allows}
use Rattle.judge_reservations.specs.Tasks.{command_changes}
use Rattle.judge_reservations.specs.Tasks.{command_allowed}
use Rattle.judge_reservations.proofs.Effects.{Near, Departs, offer, near_item_out, near_item_kept}
use Rattle.judge_reservations.proofs.Effects.{near_gone_out, near_booked_out, near_new_out}
use Rattle.judge_reservations.proofs.Effects.{near_left_out}

pub departs : (s : State) (c : ℕ) (b : Bookings) → Departs s (give_back_all (without_customer s c) (entries b)) c
departs s c b = record {
  customers = (leaves (without_customer s c) (entries b)).customers;
  offers = λ q. ap (option_map offer) (item_of-departed s c b q.0 q.1)
      ∙ same_offer (item_of s q.0 q.1) (units_of b (q.0, q.1));
}
  where
    same_offer : (o : Option Item) (n : ℕ) → option_map offer (lowered o n) ≡ option_map offer o
    same_offer None n = refl
    same_offer (Some i) n = refl

-- the state after a booking
abbrev pub booked : State → ℕ → Kind → ℕ → ℕ → Bookings → Item → Booking → State
booked s c kind id num b i y =
    with_item (with_bookings s c (insert b (kind, id) y)) kind id (taken i num)

-- all outcomes of a Reserve
module _ (s : State) (c : ℕ) (kind : Kind) (id num : ℕ) (P : Outcome → Type 0) where
  pub reserve_cases : (bookings_of s c ≡ None → P (refused s NoCustomer)) →
      ((b : Bookings) → bookings_of s c ≡ Some b → item_of s kind id ≡ None → P (refused s NoItem)) →
      ((b : Bookings) (i : Item) → bookings_of s c ≡ Some b → item_of s kind id ≡ Some i →
      nat_lt i.free num ≡ true → P (refused s SoldOut)) →
      ((b : Bookings) (i : Item) → bookings_of s c ≡ Some b → item_of s kind id ≡ Some i →
      is_full s ≡ true → P (refused s Full)) →
      ((b : Bookings) (i : Item) → bookings_of s c ≡ Some b → item_of s kind id ≡ Some i →
      nat_lt i.free num ≡ false → get b (kind, id) ≡ None → is_full s ≡ false →
      P (done (booked s c kind id num b i (new_booking num i.price)))) →
      ((b : Bookings) (i : Item) (x : Booking) → bookings_of s c ≡ Some b → item_of s kind id ≡ Some i →
      nat_lt i.free num ≡ false → get b (kind, id) ≡ Some x → nat_lt unit_limit (x.units + num) ≡ true →
      P (refused s UnitLimit)) →
      ((b : Bookings) (i : Item) (x : Booking) → bookings_of s c ≡ Some b → item_of s kind id ≡ Some i →
      nat_lt i.free num ≡ false → get b (kind, id) ≡ Some x → nat_lt unit_limit (x.units + num) ≡ false →
      P (done (booked s c kind id num b i (extended x num i.price)))) →
      P (reserve s c kind id num)
  reserve_cases no_customer no_item sold_out full first too_many more =
      found_both P (bookings_of s c) _ _ no_customer (λ b h.
      found_both P (item_of s kind id) _ _ (no_item b h) (λ i there.
      if_both P (nat_lt i.free num) _ _ (sold_out b i h there) (λ enough.
      found_both P (get b (kind, id)) _ _
      (λ none. if_both P (is_full s) _ _ (full b i h there) (first b i h there enough none))
      (λ x found. if_both P (nat_lt unit_limit (x.units + num)) _ _ (too_many b i x h there enough found)
      (more b i x h there enough found)))))

-- all outcomes of a Cancel
module _ (s : State) (c : ℕ) (kind : Kind) (id : ℕ) (P : Outcome → Type 0) where
  pub cancel_cases : (bookings_of s c ≡ None → P (refused s NoCustomer)) →
      ((b : Bookings) → bookings_of s c ≡ Some b → item_of s kind id ≡ None → P (refused s NoItem)) →
      ((b : Bookings) (i : Item) → bookings_of s c ≡ Some b → item_of s kind id ≡ Some i →
      get b (kind, id) ≡ None → P (refused s NotBooked)) →
      ((b : Bookings) (i : Item) (x : Booking) → bookings_of s c ≡ Some b → item_of s kind id ≡ Some i →
      get b (kind, id) ≡ Some x → P (done (with_item (with_bookings s c (remove b (kind, id)))
      kind id (given_back i x.units)))) →
      P (cancel s c kind id)
  cancel_cases no_customer no_item not_booked ends =
      found_both P (bookings_of s c) _ _ no_customer (λ b h.
      found_both P (item_of s kind id) _ _ (no_item b h) (λ i there.
      found_both P (get b (kind, id)) _ _ (not_booked b i h there) (λ x found. ends b i x h there found)))

-- a booking that is allowed keeps closed items closed and whole customers whole
closed_allows : (hc hi closed whole : Bool) → ((hc || not closed) && (hi || not whole)) ≡ true → closed ≡ true →
    hc ≡ false → ⊥
closed_allows true hi closed whole e f g = let never : true ≡ false = g in cc
closed_allows false hi true whole e f g = let never : false ≡ true = e in cc
closed_allows false hi false whole e f g = let never : false ≡ true = f in cc

whole_allows : (hc hi closed whole : Bool) → ((hc || not closed) && (hi || not whole)) ≡ true → whole ≡ true →
    hi ≡ false → ⊥
whole_allows hc hi closed whole e f g = second (both_true (hc || not closed) (hi || not whole) e).1
  where
    second : (hi || not whole) ≡ true → ⊥
    second x =
        let never : false ≡ true = sym (ap (λ t. t || not whole) g ∙ ap not f) ∙ x in cc

module _ (scope : Scope) (s p : State) (near : Near scope s p) where
  module _ (kind : Kind) (id num : ℕ) (price : Option ℕ) where
    pub add_out : has_item scope (kind, id) ≡ false → Near scope (add s kind id num price).0 p
    add_out out = found_both (λ o. Near scope o.0 p) (item_of s kind id) _ _
        (λ none. new price)
        (λ i there. if_both (λ o. Near scope o.0 p) (nat_lt total_limit (i.total + num)) _ _ (λ _. near)
        (λ _. near_item_out scope s p near kind id (added i num price) out))
      where
        new : (price : Option ℕ) → Near scope (add_new s kind id num price).0 p
        new None = near
        new (Some n) = if_both (λ o. Near scope o.0 p) (num == 0) _ _ (λ _. near) (λ _.
            if_both (λ o. Near scope o.0 p) (is_full s) _ _ (λ _. near)
            (λ _. near_item_out scope s p near kind id (new_item num n) out))

  module _ (kind : Kind) (id num : ℕ) where
    pub delete_out : has_item scope (kind, id) ≡ false → Near scope (delete s kind id num).0 p
    delete_out out = found_both (λ o. Near scope o.0 p) (item_of s kind id) _ _ (λ _. near) (λ i there.
        if_both (λ o. Near scope o.0 p) (nat_lt i.free num) _ _ (λ _. near) (λ _.
        if_both (λ o. Near scope o.0 p) (i.total - num == 0) _ _ (λ _. near_gone_out scope s p near kind id out)
        (λ _. near_item_out scope s p near kind id (deleted i num) out)))

  module _ (id : ℕ) where
    pub drop_flight_out : has_item scope (Flight, id) ≡ false → Near scope (drop_flight s id).0 p
    drop_flight_out out = found_both (λ o. Near scope o.0 p) (item_of s Flight id) _ _ (λ _. near) (λ i there.
        if_both (λ o. Near scope o.0 p) (nat_lt 0 i.used) _ _ (λ _. near)
        (λ _. near_gone_out scope s p near Flight id out))

  module _ (c : ℕ) where
    pub new_out : has_customer scope c ≡ false → Near scope (new_customer s c).0 p
    new_out out = found_both (λ o. Near scope o.0 p) (bookings_of s c) _ _
        (λ none. if_both (λ o. Near scope o.0 p) (is_full s) _ _ (λ _. near)
        (λ _. near_new_out scope s p near c none out))
        (λ b there. near)

    pub leave_out : has_customer scope c ≡ false → Near scope (drop_customer s c).0 p
    leave_out out = found_both (λ o. Near scope o.0 p) (bookings_of s c) _ _ (λ _. near)
        (λ b there. near_left_out scope s (give_back_all (without_customer s c) (entries b)) p near c
        (departs s c b) out)

  module _ (c : ℕ) (kind : Kind) (id : ℕ) where
    pub moved_out : (num : ℕ) → (has_customer scope c && has_item scope (kind, id)) ≡ false →
        allows scope c (kind, id) ≡ true →
        (b : Bookings) (i : Item) (y : Booking) → bookings_of s c ≡ Some b → item_of s kind id ≡ Some i →
        Near scope (booked s c kind id num b i y) p
    moved_out num out allowed b i y there found =
        let after = near_booked_out scope s p near c (kind, id) b (insert b (kind, id) y) there
        (λ q apart. get_elsewhere place_cmp_total place_cmp-IsAntisymmetric b (kind, id) y q apart) out
        (λ shut stranger. absurd (closed_allows (has_customer scope c) (has_item scope (kind, id))
        (is_closed scope (kind, id)) (is_whole scope c) allowed shut stranger))
        (λ whole other. absurd (whole_allows (has_customer scope c) (has_item scope (kind, id))
        (is_closed scope (kind, id)) (is_whole scope c) allowed whole other)) in
        near_item_kept scope (with_bookings s c (insert b (kind, id) y)) p after kind id i (taken i num)
        (item_of-with_bookings s c (insert b (kind, id) y) kind id ∙ found) refl

    pub ended_out : (has_customer scope c && has_item scope (kind, id)) ≡ false →
        (b : Bookings) (i : Item) (x : Booking) → bookings_of s c ≡ Some b → item_of s kind id ≡ Some i →
        Near scope (with_item (with_bookings s c (remove b (kind, id))) kind id (given_back i x.units)) p
    ended_out out b i x there found =
        let gone = get_removed place_cmp_total place_cmp-IsAntisymmetric b (kind, id) in
        let after = near_booked_out scope s p near c (kind, id) b (remove b (kind, id)) there
        (λ q apart. removed_elsewhere place_cmp_total place_cmp-IsAntisymmetric b (kind, id) q apart) out
        (λ _ _. gone) (λ _ _. gone) in
        near_item_kept scope (with_bookings s c (remove b (kind, id))) p after kind id i (given_back i x.units)
        (item_of-with_bookings s c (remove b (kind, id)) kind id ∙ found) refl

    pub reserve_out : (num : ℕ) → (has_customer scope c && has_item scope (kind, id)) ≡ false →
        allows scope c (kind, id) ≡ true → Near scope (reserve s c kind id num).0 p
    reserve_out num out allowed = reserve_cases s c kind id num (λ o. Near scope o.0 p)
        (λ _. near) (λ _ _ _. near) (λ _ _ _ _ _. near) (λ _ _ _ _ _. near)
        (λ b i there found _ _ _. moved_out num out allowed b i (new_booking num i.price) there found)
        (λ _ _ _ _ _ _ _ _. near)
        (λ b i x there found _ _ _. moved_out num out allowed b i (extended x num i.price) there found)

    pub cancel_out : (has_customer scope c && has_item scope (kind, id)) ≡ false → Near scope (cancel s c kind id).0 p
    cancel_out out = cancel_cases s c kind id (λ o. Near scope o.0 p)
        (λ _. near) (λ _ _ _. near) (λ _ _ _ _ _. near)
        (λ b i x there found _. ended_out out b i x there found)

  -- a command that cannot change the part leaves the part of the state
  pub command_out : (c : Command) → command_changes scope c ≡ false → command_allowed scope c ≡ true →
      Near scope (step s c).0 p
  command_out (command.Add kind id num price) out allowed = add_out kind id num price out
  command_out (command.Delete kind id num) out allowed = delete_out kind id num out
  command_out (command.DropFlight id) out allowed = drop_flight_out id out
  command_out (command.NewCustomer id) out allowed = new_out id out
  command_out (command.DropCustomer id) out allowed = leave_out id out
  command_out (command.Free kind id) out allowed = near
  command_out (command.Price kind id) out allowed = near
  command_out (command.Bill id) out allowed = near
  command_out (command.Reserve customer kind id num) out allowed = reserve_out customer kind id num out allowed
  command_out (command.Cancel customer kind id) out allowed = cancel_out customer kind id out
  command_out command.Audit out allowed = near
