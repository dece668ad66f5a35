-- Where DropCustomer leads: to where it leads once the customer's first booking is cancelled.
use Rattle.std.proofs.Common.{◌≡◌, inl, inr, ℕ, ◌+◌, Bool, true, false, cond, List, ◌∷◌, refl, ap, sym, subst, ◌∙◌}
use Rattle.std.specs.Prelude.{Option, Some, None, T}
use Rattle.std.specs.Cmp.{nat_cmp_total, tied_itself}
use Rattle.std.specs.Ordering.{nat_cmp, eq_by_cmp, is_eq}
use Rattle.std.specs.FinMap as map
use Rattle.std.specs.FinMap.{find, is_sorted, empty, get, insert, remove, entries, len, from_sorted}
use Rattle.std.specs.FinMap.{nat_cmp-IsAntisymmetric}
use Rattle.vac_model.specs.declared.items.Kind.{Kind}
use Rattle.vac_model.specs.declared.items.Kind.TheVariants.{Car, Flight, Room}
use Rattle.vac_model.specs.declared.items.Item.{Item}
use Rattle.vac_model.specs.declared.items.Booking.{Booking}
use Rattle.vac_model.specs.State.{State, Bookings, Customers, Place, place_cmp, item_of, with_item, bookings_of}
use Rattle.vac_model.specs.State.{with_bookings, without_customer}
use Rattle.vac_model.specs.Step.{done, given_back, give_back, give_back_all, cancel, drop_customer}
use Rattle.vac_model.proofs.Sums.{first, second, find_below, either_key, apart_test, get_here, len_removed}
use Rattle.vac_model.proofs.Places.{place_cmp_total, place_cmp-IsAntisymmetric}
use Rattle.vac_model.proofs.States.{item_of-without_customer}
use Rattle.vac_model.proofs.Balance.{bookings-with_item}
use Rattle.vac_model.proofs.Views.{entries-empty}

-- the first booking, and what is left without it
pub first_found : (b : Bookings) (p : Place) (x : Booking) (es : List (Place × Booking)) →
    entries b ≡ (p, x) ∷ es → get b p ≡ Some x
first_found b p x es e =
    map.get-entries b p ∙ (ap (find place_cmp p) e
    ∙ ap (λ (t : Bool). cond t (Some x) (find place_cmp p es)) (ap is_eq (tied_itself place_cmp_total p)))

once : {A : Type 0} (t : Bool) (x y : Option A) → t ≡ true → y ≡ None → cond t None (cond t x y) ≡ y
once t x y e f = ap (λ (z : Bool). cond z None (cond z x y)) e ∙ sym f

never : {A : Type 0} (t : Bool) (x y : Option A) → t ≡ false → cond t None (cond t x y) ≡ y
never t x y e = ap (λ (z : Bool). cond z None (cond z x y)) e

pub rest_of : (b : Bookings) (p : Place) (x : Booking) (es : List (Place × Booking)) →
    entries b ≡ (p, x) ∷ es → entries (remove b p) ≡ es
rest_of b p x es e =
    let h : T (is_sorted place_cmp ((p, x) ∷ es)) =
    subst (λ (z : List (Place × Booking)). T (is_sorted place_cmp z)) e (map.entries_sorted b) in
    let later = second _ _ h in
    let none : find place_cmp p es ≡ None = find_below place_cmp p es (first _ _ h) in
    let same : remove b p ≡ from_sorted es =
    map.same_map place_cmp_total place_cmp-IsAntisymmetric _ _ (λ q.
    map.get-remove place_cmp_total b p q
    ∙ (ap (cond (eq_by_cmp place_cmp q p) None) (map.get-entries b q ∙ ap (find place_cmp q) e)
    ∙ (elim (either_key place_cmp_total place_cmp-IsAntisymmetric q p) [
      | inl is ↦ once (eq_by_cmp place_cmp q p) (Some x) (find place_cmp q es)
          (subst (λ z. eq_by_cmp place_cmp q z ≡ true) is (ap is_eq (tied_itself place_cmp_total q)))
          (ap (λ z. find place_cmp z es) is ∙ none)
      | inr apart ↦ never (eq_by_cmp place_cmp q p) (Some x) (find place_cmp q es)
          (apart_test place_cmp_total place_cmp-IsAntisymmetric q p apart)
    ] ∙ sym (map.get-from_sorted place_cmp es q later)))) in
    ap (λ (z : Bookings). entries z) same ∙ map.entries-from_sorted place_cmp es later

-- a customer that came is gone
gone : (cs : Customers) (c : ℕ) (b : Bookings) → remove (insert cs c b) c ≡ remove cs c
gone cs c b = map.same_map nat_cmp_total nat_cmp-IsAntisymmetric _ _ (λ q.
    map.get-remove nat_cmp_total (insert cs c b) c q
    ∙ (ap (cond (eq_by_cmp nat_cmp q c) None) (map.get-insert nat_cmp_total cs c b q)
    ∙ (twice (eq_by_cmp nat_cmp q c) (Some b) (get cs q) ∙ sym (map.get-remove nat_cmp_total cs c q))))
  where
    twice : {A : Type 0} (t : Bool) (x y : Option A) → cond t None (cond t x y) ≡ cond t None y
    twice true x y = refl
    twice false x y = refl

leaves_item : (s : State) (c : ℕ) (b : Bookings) (kind : Kind) (id : ℕ) (item : Item) →
    without_customer (with_item (with_bookings s c b) kind id item) c
    ≡ with_item (without_customer s c) kind id item
leaves_item s c b Car id item = let g = gone s.customers c b in
    λ i. record {
      capacity = s.capacity;
      cars = insert s.cars id item;
      flights = s.flights;
      rooms = s.rooms;
      customers = g i;
    }
leaves_item s c b Flight id item = let g = gone s.customers c b in
    λ i. record {
      capacity = s.capacity;
      cars = s.cars;
      flights = insert s.flights id item;
      rooms = s.rooms;
      customers = g i;
    }
leaves_item s c b Room id item = let g = gone s.customers c b in
    λ i. record {
      capacity = s.capacity;
      cars = s.cars;
      flights = s.flights;
      rooms = insert s.rooms id item;
      customers = g i;
    }

pub drop_is : (s : State) (c : ℕ) (b : Bookings) → bookings_of s c ≡ Some b →
    drop_customer s c ≡ done (give_back_all (without_customer s c) (entries b))
drop_is s c b h = rw h refl

-- the state after a booking of the customer was cancelled
abbrev pub cancelled : State → ℕ → Bookings → Kind → ℕ → Item → Booking → State
cancelled s c b kind id item x =
    with_item (with_bookings s c (remove b (kind, id))) kind id (given_back item x.units)

pub cancel_is : (s : State) (c : ℕ) (b : Bookings) (kind : Kind) (id : ℕ) (item : Item) (x : Booking) →
    bookings_of s c ≡ Some b → item_of s kind id ≡ Some item → get b (kind, id) ≡ Some x →
    cancel s c kind id ≡ done (cancelled s c b kind id item x)
cancel_is s c b kind id item x h there found = rw (h, there, found) refl

pub still_there : (s : State) (c : ℕ) (b : Bookings) (kind : Kind) (id : ℕ) (item : Item) (x : Booking) →
    bookings_of (cancelled s c b kind id item x) c ≡ Some (remove b (kind, id))
still_there s c b kind id item x =
    bookings-with_item (with_bookings s c (remove b (kind, id))) kind id (given_back item x.units) c
    ∙ get_here nat_cmp_total nat_cmp-IsAntisymmetric s.customers c (remove b (kind, id))

pub drop_same : (s : State) (c : ℕ) (b : Bookings) (kind : Kind) (id : ℕ) (item : Item) (x : Booking)
    (es : List (Place × Booking)) → bookings_of s c ≡ Some b → item_of s kind id ≡ Some item →
    entries b ≡ ((kind, id), x) ∷ es →
    drop_customer (cancelled s c b kind id item x) c ≡ drop_customer s c
drop_same s c b kind id item x es h there e =
    let after = cancelled s c b kind id item x in
    let left : give_back_all (without_customer after c) (entries (remove b (kind, id)))
    ≡ give_back_all (with_item (without_customer s c) kind id (given_back item x.units)) es =
    ap (λ (t : State). give_back_all t (entries (remove b (kind, id))))
    (leaves_item s c (remove b (kind, id)) kind id (given_back item x.units))
    ∙ ap (give_back_all (with_item (without_customer s c) kind id (given_back item x.units)))
    (rest_of b (kind, id) x es e) in
    let right : give_back_all (without_customer s c) (entries b)
    ≡ give_back_all (with_item (without_customer s c) kind id (given_back item x.units)) es =
    ap (give_back_all (without_customer s c)) e
    ∙ ap (λ (o : Option Item). give_back_all (give_back (without_customer s c) (kind, id) x.units o) es)
    (item_of-without_customer s c kind id ∙ there) in
    drop_is after c (remove b (kind, id)) (still_there s c b kind id item x)
    ∙ (ap (λ (t : State). done t) (left ∙ sym right) ∙ sym (drop_is s c b h))

pub one_less : (b : Bookings) (p : Place) (x : Booking) (es : List (Place × Booking)) →
    entries b ≡ (p, x) ∷ es → len (remove b p) + 1 ≡ len b
one_less b p x es e =
    len_removed place_cmp_total place_cmp-IsAntisymmetric b p x (first_found b p x es e)

-- a customer without bookings just leaves
pub drop_bare : (s : State) (c : ℕ) → bookings_of s c ≡ Some empty →
    drop_customer s c ≡ done (without_customer s c)
drop_bare s c h =
    drop_is s c empty h
    ∙ ap (λ (es : List (Place × Booking)). done (give_back_all (without_customer s c) es)) (entries-empty place_cmp)
