-- In a balanced state, the used units are the booked units.
use Rattle.std.proofs.lemmas.Bool.Decides.{nat_tests}
use Rattle.std.proofs.Common.{◌≡◌, ◌≢◌, ℕ, ◌+◌, cond, List, [], ◌∷◌, ap, sym, ◌∙◌, arith, inl, inr}
use Rattle.std.specs.Prelude.{Some, None, IsSome, is_some, sum_by}
use Rattle.std.specs.Option.{option_map_or}
use Rattle.std.specs.declared.cmp.Ordering.{Ordering}
use Rattle.std.specs.declared.cmp.Ordering.TheVariants.{Equal, Greater}
use Rattle.std.specs.Ordering.{is_eq, eq_by_cmp, nat_cmp}
use Rattle.std.specs.Cmp.{IsTotalOrder, nat_cmp_total, tied_itself}
use Rattle.std.specs.FinMap as map
use Rattle.std.specs.FinMap.{FinMap, IsAntisymmetric, find, put, get, insert, entries, values, empty}
use Rattle.std.specs.FinMap.{nat_cmp-IsAntisymmetric}
use Rattle.std.specs.Map.{values_of}
use Rattle.std.proofs.lemmas.List.Sums.{sum_by-cons}
use Rattle.vac_model.specs.declared.items.Kind.{Kind}
use Rattle.vac_model.specs.declared.items.Kind.TheVariants.{Car, Flight, Room}
use Rattle.vac_model.specs.declared.items.Item.{Item}
use Rattle.vac_model.specs.State.{State, Booking, Bookings, Customers, Place, item_of, units_of, units_held}
use Rattle.vac_model.specs.State.{units_booked, report, place_cmp}
use Rattle.vac_model.specs.Balanced.{IsBalanced}
use Rattle.vac_model.proofs.Views.{entries-empty}
use Rattle.vac_model.proofs.Sums.{by_entries, get_here, get_elsewhere, either_key, apart_test, sum-insert}
use Rattle.vac_model.proofs.Places.{place_cmp_total, place_cmp-IsAntisymmetric}

module _ {K X : Type 0} (R : K → K → Ordering) where
  not_tied : (k : K) (e : K × X) (es : List (K × X)) → R k e.0 ≡ Equal → find R k (e ∷ es) ≡ None → ⊥
  not_tied k e es tied none =
      let there : find R k (e ∷ es) ≡ Some e.1 = ap (λ o. cond (is_eq o) (Some e.1) (find R k es)) tied in
      let never : None ≡ Some e.1 = sym none ∙ there in cc

  later : (k : K) (e : K × X) (es : List (K × X)) → R k e.0 ≡ Greater → find R k (e ∷ es) ≡ None → find R k es ≡ None
  later k e es above none = sym (ap (λ o. cond (is_eq o) (Some e.1) (find R k es)) above) ∙ none

  sum-put : (f : K × X → ℕ) (k : K) (v : X) (es : List (K × X)) → find R k es ≡ None →
      sum_by f (put R k v es) ≡ sum_by f es + f (k, v)
  sum-put f k v [] none = omega (arith, sum_by-cons f (k, v) [])
  sum-put f k v (e ∷ es) none = grind (
    arith,
    nat_tests,
    sum_by-cons f (k, v) (e ∷ es),
    sum_by-cons f e,
    sum_by-cons f e es,
    sum-put f k v es,
    later k e es,
  )

-- a number of each key, added up
abbrev key_sum : {K X : Type 0} {R : K → K → Ordering} → (K → ℕ) → FinMap R X → ℕ
key_sum h m = sum_by (λ e. h e.0) (entries m)

module _ {K X : Type 0} {R : K → K → Ordering} (o : IsTotalOrder R) (same : IsAntisymmetric R) where
  entry_sum-push : (f : K × X → ℕ) (m : FinMap R X) (k : K) (v : X) → get m k ≡ None →
      sum_by f (entries (insert m k v)) ≡ sum_by f (entries m) + f (k, v)
  entry_sum-push f m k v none = ap (sum_by f) (map.entries-insert o m k v) ∙ sum-put R f k v (entries m)
      (sym (map.get-entries m k) ∙ none)

  no_sum : (f : K × X → ℕ) → sum_by f (entries (empty {X = X} {R = R})) ≡ 0
  no_sum f = ap (sum_by f) (entries-empty R)

  -- the sum over the values is a sum over the keys, if each value's number is its key's
  by_keys : (f : X → ℕ) (h : K → ℕ) (m : FinMap R X) → ((k : K) (v : X) → get m k ≡ Some v → f v ≡ h k) →
      sum_by f (values m) ≡ key_sum h m
  by_keys f h = by_entries o same (λ m. ((k : K) (v : X) → get m k ≡ Some v → f v ≡ h k) →
      sum_by f (values m) ≡ key_sum h m)
      (λ is. let none : sum_by f (values (empty {X = X} {R = R})) ≡ 0 =
      ap (λ es. sum_by f (values_of es)) (entries-empty R) in
      omega (arith, none, no_sum (λ e. h e.0)))
      (λ m k v new more is.
      let rest = more (λ q w there. is q w (get_elsewhere o same m k v q (λ e. let gone : None ≡ Some w =
      sym new ∙ ap (get m) (sym e) ∙ there in cc) ∙ there)) in
      let one = is k v (get_here o same m k v) in
      let sums = sum-insert o same f m k v in
      let nothing : option_map_or f (get m k) 0 ≡ 0 = ap (λ e. option_map_or f e 0) new in
      omega (arith, rest, one, sums, nothing, entry_sum-push (λ e. h e.0) m k v new))

  -- one key counts n, and the others nothing
  one_key : (h : K → ℕ) (q : K) (n : ℕ) → h q ≡ n → ((k : K) → k ≢ q → h k ≡ 0) → (m : FinMap R X) →
      key_sum h m ≡ cond (is_some (get m q)) n 0
  one_key h q n here others = by_entries o same (λ m. key_sum h m ≡ cond (is_some (get m q)) n 0)
      (no_sum (λ e. h e.0) ∙ sym (ap (λ g. cond (is_some g) n 0) (map.get-empty {X = X} R q)))
      (λ m k v new more. elim (either_key o same k q) [
        | inl e ↦
            let missing : get m q ≡ None = ap (get m) (sym e) ∙ new in
            let before : key_sum h m ≡ 0 = more ∙ ap (λ g. cond (is_some g) n 0) missing in
            let there : get (insert m k v) q ≡ Some v = ap (get (insert m k v)) (sym e) ∙ get_here o same m k v in
            let count : h k ≡ n = ap h e ∙ here in
            let total : key_sum h (insert m k v) ≡ n = omega (
              arith,
              entry_sum-push (λ e. h e.0) m k v new,
              before,
              count,
            ) in
            total ∙ sym (ap (λ g. cond (is_some g) n 0) there)
        | inr apart ↦
            let kept : get (insert m k v) q ≡ get m q = get_elsewhere o same m k v q (λ e. apart (sym e)) in
            let total : key_sum h (insert m k v) ≡ key_sum h m =
            omega (arith, entry_sum-push (λ e. h e.0) m k v new, others k apart) in
            total ∙ more ∙ sym (ap (λ g. cond (is_some g) n 0) kept)
      ])

  no_key : (h : K → ℕ) → ((k : K) → h k ≡ 0) → (m : FinMap R X) → key_sum h m ≡ 0
  no_key h none = by_entries o same (λ m. key_sum h m ≡ 0) (no_sum (λ e. h e.0))
      (λ m k v new more. omega (arith, entry_sum-push (λ e. h e.0) m k v new, more, none k))

  -- sums of two numbers
  key_sum-+ : (g h : K → ℕ) (m : FinMap R X) → key_sum (λ k. g k + h k) m ≡ key_sum g m + key_sum h m
  key_sum-+ g h = by_entries o same (λ m. key_sum (λ k. g k + h k) m ≡ key_sum g m + key_sum h m)
      (omega (arith, no_sum (λ e. g e.0 + h e.0), no_sum (λ e. g e.0), no_sum (λ e. h e.0)))
      (λ m k v new more. omega (
        arith,
        more,
        entry_sum-push (λ e. g e.0 + h e.0) m k v new,
        entry_sum-push (λ e. g e.0) m k v new,
        entry_sum-push (λ e. h e.0) m k v new,
      ))

  key_sum-same : (g h : K → ℕ) → ((k : K) → g k ≡ h k) → (m : FinMap R X) → key_sum g m ≡ key_sum h m
  key_sum-same g h is = grind (arith, nat_tests, by_entries, no_sum)

-- a number of each item's place, added up over the three tables
abbrev place_sum : State → (Place → ℕ) → ℕ
place_sum s h = key_sum (λ i. h (Car, i)) s.cars + key_sum (λ i. h (Flight, i)) s.flights + key_sum
    (λ i. h (Room, i)) s.rooms

place_sum-+ : (s : State) (g h : Place → ℕ) → place_sum s (λ p. g p + h p) ≡ place_sum s g + place_sum s h
place_sum-+ s g h =
    omega (
      arith,
      key_sum-+ nat_cmp_total nat_cmp-IsAntisymmetric (λ i. g (Car, i)) (λ i. h (Car, i)) s.cars,
      key_sum-+ nat_cmp_total nat_cmp-IsAntisymmetric (λ i. g (Flight, i)) (λ i. h (Flight, i)) s.flights,
      key_sum-+ nat_cmp_total nat_cmp-IsAntisymmetric (λ i. g (Room, i)) (λ i. h (Room, i)) s.rooms,
    )

place_sum-same : (s : State) (g h : Place → ℕ) → ((p : Place) → g p ≡ h p) → place_sum s g ≡ place_sum s h
place_sum-same s g h is = grind (arith, nat_tests, key_sum-same)

place_sum-zero : (s : State) (h : Place → ℕ) → ((p : Place) → h p ≡ 0) → place_sum s h ≡ 0
place_sum-zero s h none = grind (arith, nat_tests, no_key)

-- places of two kinds differ
ids_apart : (kind : Kind) (i id : ℕ) → i ≢ id → (◌≢◌ {A = Place} (kind, i) (kind, id))
ids_apart kind i id apart e = apart (ap (λ (p : Place). p.1) e)

-- one place of the tables counts n, and the others nothing
one_place : (s : State) (h : Place → ℕ) (kind : Kind) (id n : ℕ) → h (kind, id) ≡ n →
    ((p : Place) → p ≢ (kind, id) → h p ≡ 0) → IsSome (item_of s kind id) → place_sum s h ≡ n
one_place s h Car id n here others there =
    let this = one_key nat_cmp_total nat_cmp-IsAntisymmetric (λ i. h (Car, i)) id n here
    (λ i apart. others (Car, i) (ids_apart Car i id apart)) s.cars in
    let found : cond (is_some (get s.cars id)) n 0 ≡ n = ap (λ b. cond b n 0) there in
    omega (
      arith,
      this,
      found,
      no_key nat_cmp_total nat_cmp-IsAntisymmetric (λ i. h (Flight, i))
          (λ i. others (Flight, i) (λ e. let never : Flight ≡ Car = ap (λ (p : Place). p.0) e in cc)) s.flights,
      no_key nat_cmp_total nat_cmp-IsAntisymmetric (λ i. h (Room, i))
          (λ i. others (Room, i) (λ e. let never : Room ≡ Car = ap (λ (p : Place). p.0) e in cc)) s.rooms,
    )
one_place s h Flight id n here others there =
    let this = one_key nat_cmp_total nat_cmp-IsAntisymmetric (λ i. h (Flight, i)) id n here
    (λ i apart. others (Flight, i) (ids_apart Flight i id apart)) s.flights in
    let found : cond (is_some (get s.flights id)) n 0 ≡ n = ap (λ b. cond b n 0) there in
    omega (
      arith,
      this,
      found,
      no_key nat_cmp_total nat_cmp-IsAntisymmetric (λ i. h (Car, i))
          (λ i. others (Car, i) (λ e. let never : Car ≡ Flight = ap (λ (p : Place). p.0) e in cc)) s.cars,
      no_key nat_cmp_total nat_cmp-IsAntisymmetric (λ i. h (Room, i))
          (λ i. others (Room, i) (λ e. let never : Room ≡ Flight = ap (λ (p : Place). p.0) e in cc)) s.rooms,
    )
one_place s h Room id n here others there =
    let this = one_key nat_cmp_total nat_cmp-IsAntisymmetric (λ i. h (Room, i)) id n here
    (λ i apart. others (Room, i) (ids_apart Room i id apart)) s.rooms in
    let found : cond (is_some (get s.rooms id)) n 0 ≡ n = ap (λ b. cond b n 0) there in
    omega (
      arith,
      this,
      found,
      no_key nat_cmp_total nat_cmp-IsAntisymmetric (λ i. h (Car, i))
          (λ i. others (Car, i) (λ e. let never : Car ≡ Room = ap (λ (p : Place). p.0) e in cc)) s.cars,
      no_key nat_cmp_total nat_cmp-IsAntisymmetric (λ i. h (Flight, i))
          (λ i. others (Flight, i) (λ e. let never : Flight ≡ Room = ap (λ (p : Place). p.0) e in cc)) s.flights,
    )

-- the units of one customer, each counted at its item
customer_units : (s : State) (b : Bookings) → ((p : Place) (x : Booking) → get b p ≡ Some x →
    IsSome (item_of s p.0 p.1)) → place_sum s (units_of b) ≡ units_booked b
customer_units s = by_entries place_cmp_total place_cmp-IsAntisymmetric
    (λ b. ((p : Place) (x : Booking) → get b p ≡ Some x → IsSome (item_of s p.0 p.1)) →
    place_sum s (units_of b) ≡ units_booked b)
    (λ named.
    let none : units_booked empty ≡ 0 = ap (λ es. sum_by {X = Booking} (λ x. x.units) (values_of es))
    (entries-empty place_cmp) in
    place_sum-zero s (units_of empty) (λ p. ap (λ o. option_map_or {T = Booking} (λ x. x.units) o 0)
    (map.get-empty place_cmp p)) ∙ sym none)
    (λ b p x new more named.
    let rest = more (λ q y there. named q y (get_elsewhere place_cmp_total place_cmp-IsAntisymmetric b p x q
    (λ e. let gone : None ≡ Some y = sym new ∙ ap (get b) (sym e) ∙ there in cc) ∙ there)) in
    let alone : Place → ℕ = λ q. cond (eq_by_cmp place_cmp q p) x.units 0 in
    let split = place_sum-same s (units_of (insert b p x)) (λ q. units_of b q + alone q) (λ q. parts b p x new q) in
    let here : alone p ≡ x.units = ap (λ o. cond (is_eq o) x.units 0) (tied_itself place_cmp_total p) in
    let one = one_place s alone p.0 p.1 x.units here
    (λ q apart. ap (λ t. cond t x.units 0) (apart_test place_cmp_total place_cmp-IsAntisymmetric q p apart))
    (named p x (get_here place_cmp_total place_cmp-IsAntisymmetric b p x)) in
    let sums = sum-insert place_cmp_total place_cmp-IsAntisymmetric (λ (y : Booking). y.units) b p x in
    let nothing : option_map_or (λ (y : Booking). y.units) (get b p) 0 ≡ 0 =
    ap (λ o. option_map_or {T = Booking} (λ y. y.units) o 0) new in
    omega (arith, rest, split, place_sum-+ s (units_of b) alone, one, sums, nothing))
  where
    parts : (b : Bookings) (p : Place) (x : Booking) → get b p ≡ None → (q : Place) →
        units_of (insert b p x) q ≡ units_of b q + cond (eq_by_cmp place_cmp q p) x.units 0
    parts b p x new q = elim (either_key place_cmp_total place_cmp-IsAntisymmetric q p) [
      | inl e ↦
          let after : units_of (insert b p x) q ≡ x.units =
          ap (λ o. option_map_or {T = Booking} (λ y. y.units) o 0)
          (ap (get (insert b p x)) e ∙ get_here place_cmp_total place_cmp-IsAntisymmetric b p x) in
          let before : units_of b q ≡ 0 = ap (λ o. option_map_or {T = Booking} (λ y. y.units) o 0)
          (ap (get b) e ∙ new) in
          let test : cond (eq_by_cmp place_cmp q p) x.units 0 ≡ x.units =
          ap (λ o. cond (is_eq o) x.units 0) (ap (λ r. place_cmp r p) e ∙ tied_itself place_cmp_total p) in
          omega (arith, after, before, test)
      | inr apart ↦
          let after : units_of (insert b p x) q ≡ units_of b q =
          ap (λ o. option_map_or {T = Booking} (λ y. y.units) o 0)
          (get_elsewhere place_cmp_total place_cmp-IsAntisymmetric b p x q apart) in
          let test : cond (eq_by_cmp place_cmp q p) x.units 0 ≡ 0 =
          ap (λ t. cond t x.units 0) (apart_test place_cmp_total place_cmp-IsAntisymmetric q p apart) in
          omega (arith, after, test)
    ]

-- the units of all customers
all_units : (s : State) (cs : Customers) → ((c : ℕ) (b : Bookings) → get cs c ≡ Some b →
    place_sum s (units_of b) ≡ units_booked b)
    → place_sum s (λ p. sum_by (λ b. units_of b p) (values cs)) ≡ sum_by units_booked (values cs)
all_units s = by_entries nat_cmp_total nat_cmp-IsAntisymmetric
    (λ cs. ((c : ℕ) (b : Bookings) → get cs c ≡ Some b → place_sum s (units_of b) ≡ units_booked b) →
    place_sum s (λ p. sum_by (λ b. units_of b p) (values cs)) ≡ sum_by units_booked (values cs))
    (λ each.
    let none : sum_by units_booked (values (empty {X = Bookings} {R = nat_cmp})) ≡ 0 =
    ap (λ es. sum_by {X = Bookings} units_booked (values_of es)) (entries-empty nat_cmp) in
    place_sum-zero s (λ p. sum_by (λ b. units_of b p) (values (empty {X = Bookings} {R = nat_cmp})))
    (λ p. ap (λ es. sum_by {X = Bookings} (λ b. units_of b p) (values_of es)) (entries-empty nat_cmp)) ∙ sym none)
    (λ cs c b new more each.
    let rest = more (λ q y there. each q y (get_elsewhere nat_cmp_total nat_cmp-IsAntisymmetric cs c b q
    (λ e. let gone : None ≡ Some y = sym new ∙ ap (get cs) (sym e) ∙ there in cc) ∙ there)) in
    let split = place_sum-same s (λ p. sum_by (λ x. units_of x p) (values (insert cs c b)))
    (λ p. sum_by (λ x. units_of x p) (values cs) + units_of b p)
    (λ p. pushed (λ x. units_of x p) cs c b new) in
    let sums = pushed units_booked cs c b new in
    omega (
      arith,
      rest,
      split,
      place_sum-+ s (λ p. sum_by (λ x. units_of x p) (values cs)) (units_of b),
      each c b (get_here nat_cmp_total nat_cmp-IsAntisymmetric cs c b),
      sums,
    ))
  where
    pushed : (f : Bookings → ℕ) (cs : Customers) (c : ℕ) (b : Bookings) → get cs c ≡ None →
        sum_by f (values (insert cs c b)) ≡ sum_by f (values cs) + f b
    pushed f cs c b new =
        let sums = sum-insert nat_cmp_total nat_cmp-IsAntisymmetric f cs c b in
        let nothing : option_map_or f (get cs c) 0 ≡ 0 = ap (λ o. option_map_or f o 0) new in
        omega (arith, sums, nothing)

-- the used units are the booked units
pub used_booked : (s : State) → IsBalanced s → (report s).used ≡ (report s).bookings
used_booked s balanced =
    let cars = by_keys nat_cmp_total nat_cmp-IsAntisymmetric (λ (x : Item). x.used) (λ i. units_held s (Car, i)) s.cars
    (λ i x e. (balanced.items Car i x e).held) in
    let flights = by_keys nat_cmp_total nat_cmp-IsAntisymmetric (λ (x : Item). x.used)
    (λ i. units_held s (Flight, i)) s.flights (λ i x e. (balanced.items Flight i x e).held) in
    let rooms = by_keys nat_cmp_total nat_cmp-IsAntisymmetric (λ (x : Item). x.used)
    (λ i. units_held s (Room, i)) s.rooms (λ i x e. (balanced.items Room i x e).held) in
    let units = all_units s s.customers (λ c b h. customer_units s b
    (λ p x e. (balanced.bookings c b p.0 p.1 x h e).item)) in
    omega (arith, cars, flights, rooms, units)
