-- Sizes, units and entries that a state shares with its part.
use Rattle.std.proofs.Common.{◌≡◌, ℕ, ◌≤◌, ◌<◌, ◌&&◌, Bool, true, false, cond, refl, ap, sym, ◌∙◌, arith}
use Rattle.std.specs.Prelude.{Option, Some, None, is_some}
use Rattle.std.specs.Option.{option_map, option_and_then, option_map_or}
use Rattle.std.specs.Cmp.{nat_cmp_total}
use Rattle.std.specs.FinMap as map
use Rattle.std.specs.FinMap.{get, len, nat_cmp-IsAntisymmetric}
use Rattle.std.proofs.lemmas.Bool.Decides.{nat_tests}
use Rattle.vac_model.specs.declared.items.Kind.{Kind}
use Rattle.vac_model.specs.declared.items.Kind.TheVariants.{Car, Flight, Room}
use Rattle.vac_model.specs.declared.items.Item.{Item}
use Rattle.vac_model.specs.declared.items.Booking.{Booking}
use Rattle.vac_model.specs.State.{State, Bookings, Place, item_of, bookings_of, units_of, units_held, size}
use Rattle.vac_model.specs.State.{is_full}
use Rattle.vac_model.proofs.Ids.{both_true}
use Rattle.vac_model.proofs.Kept.{le_false}
use Rattle.vac_model.proofs.Places.{place_cmp_total, place_cmp-IsAntisymmetric}
use Rattle.judge_reservations.specs.declared.scope.Scope.{Scope}
use Rattle.judge_reservations.specs.Scopes.{has_customer, has_item, is_place_among, is_among, is_closed, is_whole}
use Rattle.judge_reservations.specs.Parts.{offer_of, is_customer, booking_of, HasPart}
use Rattle.judge_reservations.proofs.Sums.{there, sum_below, len_below}
use Rattle.judge_reservations.proofs.Effects.{offer}

pub none_some : {X : Type 0} (x : X) → None ≡ Some x → ⊥
none_some x e = cc

false_true : false ≡ true → ⊥
false_true e = cc

pub none_of : {X : Type 0} (o : Option X) → is_some o ≡ false → o ≡ None
none_of None e = refl
none_of (Some x) e = absurd (let never : true ≡ false = e in cc)

some_map : {X Y : Type 0} (f : X → Y) (o : Option X) → is_some (option_map f o) ≡ is_some o
some_map f None = refl
some_map f (Some x) = refl

some_cond : {X : Type 0} (b : Bool) (o : Option X) → is_some (cond b o None) ≡ true → is_some o ≡ true
some_cond true o e = e
some_cond false o e = absurd (false_true e)

units_in : Option Booking → ℕ
units_in o = option_map_or (λ b. b.units) o 0

units_through : (o : Option Bookings) (q : Place) →
    option_map_or (λ b. units_of b q) o 0 ≡ units_in (option_and_then (λ b. get b q) o)
unfolding units_in
units_through None q = refl
units_through (Some b) q = refl

units_cond : (b : Bool) (o : Option Booking) → units_in (cond b o None) ≤ units_in o
unfolding units_in
units_cond true o = omega arith
units_cond false o = omega arith

no_units : units_in None ≡ 0
unfolding units_in
no_units = refl

module _ (scope : Scope) (s p : State) (h : HasPart scope s p) where
  pub held_below : (q : Place) → units_held p q ≤ units_held s q
  held_below q = sum_below nat_cmp_total nat_cmp-IsAntisymmetric (λ b. units_of b q) (λ b. units_of b q)
      p.customers s.customers (λ c.
      let left = units_through (bookings_of p c) q in
      let right = units_through (bookings_of s c) q in
      let part : units_in (booking_of p c q)
      ≡ units_in (cond (has_customer scope c && has_item scope q) (booking_of s c q) None) =
      ap units_in (h.part.bookings c q) in
      omega (arith, left, right, part, units_cond (has_customer scope c && has_item scope q) (booking_of s c q)))

  pub held_closed : (q : Place) → is_closed scope q ≡ true → units_held s q ≤ units_held p q
  held_closed q e = sum_below nat_cmp_total nat_cmp-IsAntisymmetric (λ b. units_of b q) (λ b. units_of b q)
      s.customers p.customers (λ c.
      let left = units_through (bookings_of p c) q in
      let right = units_through (bookings_of s c) q in
      let same = known c (has_customer scope c) refl in
      omega (arith, left, right, same))
    where
      in_items : has_item scope q ≡ true
      in_items = (both_true (has_item scope q) (is_place_among scope.closed.items q) e).0

      known : (c : ℕ) (b : Bool) → has_customer scope c ≡ b →
          units_in (booking_of s c q) ≤ units_in (booking_of p c q)
      known c true f =
          let part : units_in (booking_of p c q) ≡ units_in (booking_of s c q) =
          ap units_in (h.part.bookings c q ∙ ap (λ t. cond (t && has_item scope q) (booking_of s c q) None) f
          ∙ ap (λ t. cond t (booking_of s c q) None) in_items) in
          omega (arith, part)
      known c false f =
          let none : units_in (booking_of s c q) ≡ 0 = ap units_in (h.confined.closed c q e f) ∙ no_units in
          omega (arith, none)

  item_below : (kind : Kind) (id : ℕ) → is_some (item_of p kind id) ≡ true → is_some (item_of s kind id) ≡ true
  item_below kind id e =
      sym (some_map offer (item_of s kind id))
      ∙ some_cond (has_item scope (kind, id)) (offer_of s (kind, id))
      (ap is_some (sym (h.part.offers (kind, id))) ∙ some_map offer (item_of p kind id) ∙ e)

  customer_below : (c : ℕ) → is_customer p c ≡ true → is_customer s c ≡ true
  customer_below c e = go (has_customer scope c) (sym (h.part.customers c) ∙ e)
    where
      go : (b : Bool) → cond b (is_customer s c) false ≡ true → is_customer s c ≡ true
      go true f = f
      go false f = absurd (false_true f)

  booked_below : (c : ℕ) (q : Place) → is_some (booking_of p c q) ≡ true → is_some (booking_of s c q) ≡ true
  booked_below c q e = some_cond (has_customer scope c && has_item scope q) (booking_of s c q)
      (ap is_some (sym (h.part.bookings c q)) ∙ e)

  bookings_below : (c : ℕ) → option_map_or len (bookings_of p c) 0 ≤ option_map_or len (bookings_of s c) 0
  bookings_below c = go (bookings_of p c) refl (bookings_of s c) refl
    where
      go : (x : Option Bookings) → bookings_of p c ≡ x → (b : Option Bookings) → bookings_of s c ≡ b →
          option_map_or len x 0 ≤ option_map_or len b 0
      go None e b f = omega arith
      go (Some x) e None f =
          let was : is_some (bookings_of s c) ≡ true = customer_below c (ap is_some e) in
          absurd (false_true (ap is_some (sym f) ∙ was))
      go (Some x) e (Some b) f = len_below place_cmp_total place_cmp-IsAntisymmetric x b (λ q g.
          let own : is_some (booking_of p c q) ≡ true =
          ap (λ o. is_some (option_and_then (λ (y : Bookings). get y q) o)) e ∙ g in
          ap (λ o. is_some (option_and_then (λ (y : Bookings). get y q) o)) (sym f) ∙ booked_below c q own)

  pub size_below : size p ≤ size s
  size_below =
      let cars = len_below nat_cmp_total nat_cmp-IsAntisymmetric p.cars s.cars (item_below Car) in
      let flights = len_below nat_cmp_total nat_cmp-IsAntisymmetric p.flights s.flights (item_below Flight) in
      let rooms = len_below nat_cmp_total nat_cmp-IsAntisymmetric p.rooms s.rooms (item_below Room) in
      let customers = len_below nat_cmp_total nat_cmp-IsAntisymmetric p.customers s.customers customer_below in
      let bookings = sum_below nat_cmp_total nat_cmp-IsAntisymmetric len len p.customers s.customers bookings_below in
      omega (arith, cars, flights, rooms, customers, bookings)

  pub part_not_full : is_full s ≡ false → is_full p ≡ false
  part_not_full e =
      let less : size s < s.capacity = le_false s.capacity (size s) e in
      let room : size p < p.capacity = omega (arith, less, size_below, h.capacity, h.part_capacity) in
      grind (arith, nat_tests, room)

  pub item_in_part : (kind : Kind) (id : ℕ) (i : Item) → has_item scope (kind, id) ≡ true →
      item_of s kind id ≡ Some i → (j : Item) × (item_of p kind id ≡ Some j) × (offer j ≡ offer i)
  item_in_part kind id i e known = go (item_of p kind id) refl
    where
      offered : offer_of p (kind, id) ≡ Some (offer i)
      offered = h.part.offers (kind, id) ∙ ap (λ t. cond t (offer_of s (kind, id)) None) e
          ∙ ap (option_map offer) known

      go : (o : Option Item) → item_of p kind id ≡ o →
          (j : Item) × (item_of p kind id ≡ Some j) × (offer j ≡ offer i)
      go None f = absurd (none_some (offer i) (sym (ap (option_map offer) f) ∙ offered))
      go (Some j) f = (j, f, same (offer j) (offer i) (sym (ap (option_map offer) f) ∙ offered))
        where
          same : {X : Type 0} (x y : X) → Some x ≡ Some y → x ≡ y
          same x y e = cc

  pub item_missing_part : (kind : Kind) (id : ℕ) → item_of s kind id ≡ None → item_of p kind id ≡ None
  item_missing_part kind id e = go (item_of p kind id) refl
    where
      go : (o : Option Item) → item_of p kind id ≡ o → item_of p kind id ≡ None
      go None f = f
      go (Some j) f =
          let was : is_some (item_of s kind id) ≡ true = item_below kind id (ap is_some f) in
          absurd (false_true (ap is_some (sym e) ∙ was))

  pub free_below : (kind : Kind) (id : ℕ) (i j : Item) → item_of s kind id ≡ Some i → item_of p kind id ≡ Some j →
      offer j ≡ offer i → (i.free ≤ j.free) × (j.used ≤ i.used)
  free_below kind id i j known found same =
      let a = h.balanced.items kind id i known in
      let b = h.part_balanced.items kind id j found in
      let total : j.total ≡ i.total = ap (λ (o : ℕ × ℕ). o.0) same in
      let held = held_below (kind, id) in
      (omega (arith, a.counts, a.held, b.counts, b.held, total, held), omega (arith, a.held, b.held, held))

  pub closed_same : (kind : Kind) (id : ℕ) (i j : Item) → is_closed scope (kind, id) ≡ true →
      item_of s kind id ≡ Some i → item_of p kind id ≡ Some j → offer j ≡ offer i →
      (j.free ≡ i.free) × (j.used ≡ i.used)
  closed_same kind id i j closed known found same =
      let a = h.balanced.items kind id i known in
      let b = h.part_balanced.items kind id j found in
      let total : j.total ≡ i.total = ap (λ (o : ℕ × ℕ). o.0) same in
      let held = held_below (kind, id) in
      let all = held_closed (kind, id) closed in
      (omega (arith, a.counts, a.held, b.counts, b.held, total, held, all), omega (arith, a.held, b.held, held, all))

  pub customer_in_part : (c : ℕ) (b : Bookings) → has_customer scope c ≡ true → bookings_of s c ≡ Some b →
      (x : Bookings) × (bookings_of p c ≡ Some x)
  customer_in_part c b e known = there (bookings_of p c)
      (h.part.customers c ∙ ap (λ t. cond t (is_customer s c) false) e ∙ ap is_some known)

  pub customer_missing_part : (c : ℕ) → bookings_of s c ≡ None → bookings_of p c ≡ None
  customer_missing_part c e = none_of (bookings_of p c) (go (is_customer p c) refl)
    where
      go : (b : Bool) → is_customer p c ≡ b → is_customer p c ≡ false
      go false f = f
      go true f = absurd (false_true (ap is_some (sym e) ∙ customer_below c f))

  pub booking_in_part : (c : ℕ) (q : Place) (b x : Bookings) → has_customer scope c ≡ true →
      has_item scope q ≡ true → bookings_of s c ≡ Some b → bookings_of p c ≡ Some x → get x q ≡ get b q
  booking_in_part c q b x e f known found =
      sym (ap (option_and_then (λ (y : Bookings). get y q)) found) ∙ h.part.bookings c q
      ∙ ap (λ t. cond (t && has_item scope q) (booking_of s c q) None) e
      ∙ ap (λ t. cond t (booking_of s c q) None) f
      ∙ ap (option_and_then (λ (y : Bookings). get y q)) known

  pub whole_same : (c : ℕ) (b x : Bookings) → is_whole scope c ≡ true → bookings_of s c ≡ Some b →
      bookings_of p c ≡ Some x → x ≡ b
  whole_same c b x e known found =
      map.same_map place_cmp_total place_cmp-IsAntisymmetric x b (λ q. go q (has_item scope q) refl)
    where
      in_customers : has_customer scope c ≡ true
      in_customers = (both_true (has_customer scope c) (is_among scope.whole.items c) e).0

      go : (q : Place) (t : Bool) → has_item scope q ≡ t → get x q ≡ get b q
      go q true f = booking_in_part c q b x in_customers f known found
      go q false f =
          sym (ap (option_and_then (λ (y : Bookings). get y q)) found) ∙ h.part.bookings c q
          ∙ ap (λ t. cond (t && has_item scope q) (booking_of s c q) None) in_customers
          ∙ ap (λ t. cond t (booking_of s c q) None) f
          ∙ sym (sym (ap (option_and_then (λ (y : Bookings). get y q)) known) ∙ h.confined.whole c q e f)
