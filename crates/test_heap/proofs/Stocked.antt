-- The heap of the tests represents a balanced state.
use Rattle.std.proofs.Common.{◌≡◌, ◌≢◌, ◌⊎◌, inl, inr, ℕ, zero, suc, ◌+◌, ◌*◌, ◌<◌, ◌≤◌, ◌^◌, cond, true, false, nat_eq}
use Rattle.std.proofs.Common.{List, [], ◌∷◌, length, map, sum_by, slice_index, Option, Some, None, IsSome, refl, sym}
use Rattle.std.proofs.Common.{ap, ◌∙◌, subst, arith}
use Rattle.std.proofs.lemmas.Bool.Decides.{nat_tests}
use Rattle.std.proofs.lemmas.List.Sums.{sum_by-cons}
use Rattle.std.specs.Option.{option_map_or}
use Rattle.std.specs.Prelude.{T, is_some, unwrap_or}
use Rattle.std.specs.Ordering.{nat_cmp, eq_by_cmp, is_eq}
use Rattle.std.specs.declared.cmp.Ordering.{Ordering}
use Rattle.std.specs.Cmp.{IsTotalOrder, nat_cmp_total, tied_itself}
use Rattle.std.specs.FinMap.{IsAntisymmetric, nat_cmp-IsAntisymmetric, from_sorted, entries-from_sorted}
use Rattle.std.specs.FinMap.{get-from_sorted, entries, get, len, len-entries, values, find, is_sorted}
use Rattle.tx_memory.specs.Seen.{same_or}
use Rattle.tx_memory.specs.Plain.{flat_view}
use Rattle.tx_memory.specs.PlainSeen.{get_at}
use Rattle.vac_model.specs.Amounts.{is_id}
use Rattle.vac_model.specs.declared.items.Kind.{Kind}
use Rattle.vac_model.specs.declared.items.Kind.TheVariants.{Car, Flight, Room}
use Rattle.vac_model.specs.declared.items.Item.{Item}
use Rattle.vac_model.specs.declared.items.Booking.{Booking}
use Rattle.vac_model.specs.State.{State, Bookings, Place, place_cmp, kind_number, table_of, units_of, units_held}
use Rattle.vac_model.specs.State.{item_of, bookings_of, size}
use Rattle.vac_model.specs.Balanced.{IsItem, IsBooking}
use Rattle.vac_model.proofs.Ids.{id_between}
use Rattle.vac_model.specs.Fits.{IsSmall}
use Rattle.vac_model.proofs.Balance.{some_same}
use Rattle.vac_model.proofs.Places.{place_cmp_total, place_cmp-IsAntisymmetric}
use Rattle.vac_model.proofs.Sums.{either_key, apart_test}
use Rattle.tx_alloc.specs.Pool.{IsBlock}
use Rattle.tx_alloc.specs.Rows.{Rows, times}
use Rattle.tx_tree.specs.Tree.{leaf, node}
use Rattle.tx_tree.specs.Table.{IsTable}
use Rattle.vac_bookings.specs.Bookings.{IsList}
use Rattle.vac_records.specs.Items.{mem}
use Rattle.vac_records.specs.Heap.{Parts, IsHeap, used_in}
use Rattle.vac_records.specs.InMemory.{HoldsState}
use Rattle.vac_records.proofs.Single.{same_words}
use Rattle.vac_records.specs.Represents.{Represents, items_in, customers_in, bookings_in, opened_bookings}
use Rattle.test_heap.specs.Stock.{stock_words}

-- the words
abbrev word : ℕ → ℕ
word a = slice_index stock_words a

-- the state
abbrev car : Item
car = record { used = 2; free = 3; total = 5; price = 50 }

abbrev other_car : Item
other_car = record { used = 0; free = 6; total = 6; price = 60 }

abbrev room : Item
room = record { used = 1; free = 3; total = 4; price = 70 }

abbrev car_booking : Booking
car_booking = record { units = 2; sum = 90 }

abbrev room_booking : Booking
room_booking = record { units = 1; sum = 75 }

abbrev cars : List (ℕ × Item)
cars = (1, car) ∷ (2, other_car) ∷ []

abbrev rooms : List (ℕ × Item)
rooms = (9, room) ∷ []

abbrev booked : List (Place × Booking)
booked = ((Car, 1), car_booking) ∷ ((Room, 9), room_booking) ∷ []

abbrev bookings : Bookings
bookings = from_sorted booked

abbrev no_bookings : Bookings
no_bookings = from_sorted []

abbrev users : List (ℕ × Bookings)
users = (7, bookings) ∷ (8, no_bookings) ∷ []

abbrev stock : State
stock = record {
  capacity = 7;
  cars = from_sorted cars;
  flights = from_sorted [];
  rooms = from_sorted rooms;
  customers = from_sorted users;
}

-- the structures
abbrev car_rows : Rows
car_rows = (1, 16) ∷ (2, 24) ∷ []

abbrev room_rows : Rows
room_rows = (9, 32) ∷ []

abbrev user_rows : Rows
user_rows = (7, 40) ∷ (8, 48) ∷ []

abbrev booked_rows : Rows
booked_rows = (1, 56) ∷ (2 * 2 ^ 32 + 9, 64) ∷ []

abbrev tables : ℕ → Rows
tables zero = car_rows
tables (suc zero) = []
tables (suc (suc zero)) = room_rows
tables (suc (suc (suc i))) = user_rows

abbrev lists : ℕ → Rows
lists c = cond (nat_eq c 40) booked_rows []

abbrev parts : Parts
parts = record { tables = tables; lists = lists; free = λ i. []; out = [] }

-- a block of the heap
block : (b : ℕ) → b < 7 → IsBlock 72 (16 + 8 * b)
block b l = (b, (omega arith, refl))

once_of : (a b x : ℕ) → a ≢ b → cond (nat_eq a x) 1 0 + (cond (nat_eq b x) 1 0 + 0) ≤ 1
once_of a b x ne = elim (same_or a x) [
  | inl e ↦ (
      let t : nat_eq a x ≡ true = grind (arith, nat_tests) in
      let u : nat_eq b x ≡ false = grind (arith, nat_tests) in
      rw (t, u) (omega arith))
  | inr e ↦ (
      let t : nat_eq a x ≡ false = grind (arith, nat_tests) in
      elim (same_or b x) [
        | inl f ↦ (let u : nat_eq b x ≡ true = grind (arith, nat_tests) in rw (t, u) (omega arith))
        | inr f ↦ (let u : nat_eq b x ≡ false = grind (arith, nat_tests) in rw (t, u) (omega arith))
      ])
]

once_alone : (a x : ℕ) → cond (nat_eq a x) 1 0 + 0 ≤ 1
once_alone a x = elim (same_or a x) [
  | inl e ↦ (let t : nat_eq a x ≡ true = grind (arith, nat_tests) in rw t (omega arith))
  | inr e ↦ (let t : nat_eq a x ≡ false = grind (arith, nat_tests) in rw t (omega arith))
]

car_table : IsTable word 72 16 car_rows
car_table = record {
  tree = node false leaf (1, 16) (node true leaf (2, 24) leaf);
  hangs = (
    record { at = refl; block = block 0 (omega arith); key = refl; colour = refl },
    (refl, (record { at = refl; block = block 1 (omega arith); key = refl; colour = refl }, (refl, refl))),
  );
  is = refl;
  even = (refl, tt, (refl, tt, tt));
  apart = (λ z. absurd (let y : false ≡ true = z in cc), tt, (λ z. (refl, refl), tt, tt));
  black = refl;
  ascending = (omega arith, (omega arith, tt));
  once = λ x. once_of 16 24 x (λ z. absurd (omega (arith, z)));
}

room_table : IsTable word 72 32 room_rows
room_table = record {
  tree = node false leaf (9, 32) leaf;
  hangs = (record { at = refl; block = block 2 (omega arith); key = refl; colour = refl }, (refl, refl));
  is = refl;
  even = (refl, tt, tt);
  apart = (λ z. absurd (let y : false ≡ true = z in cc), tt, tt);
  black = refl;
  ascending = (omega arith, tt);
  once = λ x. once_alone 32 x;
}

user_table : IsTable word 72 40 user_rows
user_table = record {
  tree = node false leaf (7, 40) (node true leaf (8, 48) leaf);
  hangs = (
    record { at = refl; block = block 3 (omega arith); key = refl; colour = refl },
    (refl, (record { at = refl; block = block 4 (omega arith); key = refl; colour = refl }, (refl, refl))),
  );
  is = refl;
  even = (refl, tt, (refl, tt, tt));
  apart = (λ z. absurd (let y : false ≡ true = z in cc), tt, (λ z. (refl, refl), tt, tt));
  black = refl;
  ascending = (omega arith, (omega arith, tt));
  once = λ x. once_of 40 48 x (λ z. absurd (omega (arith, z)));
}

no_table : IsTable word 72 0 []
no_table = record {
  tree = leaf;
  hangs = refl;
  is = refl;
  even = tt;
  apart = tt;
  black = refl;
  ascending = tt;
  once = λ x. omega arith;
}

table_is : (i : ℕ) → i < 4 → IsTable word 72 (word (1 + i)) (tables i)
table_is zero l = car_table
table_is (suc zero) l = no_table
table_is (suc (suc zero)) l = room_table
table_is (suc (suc (suc zero))) l = user_table
table_is (suc (suc (suc (suc i)))) l = absurd (omega (arith, l))

booked_list : IsList word 72 56 booked_rows
booked_list = record {
  linked = (
    record {
      at = refl;
      block = block 5 (omega arith);
      kind = omega arith;
      id = omega arith;
      key = refl;
      low = omega arith;
    },
    (
      record {
        at = refl;
        block = block 6 (omega arith);
        kind = omega arith;
        id = omega arith;
        key = refl;
        low = omega arith;
      },
      refl,
    ),
  );
}

no_list : IsList word 72 0 []
no_list = record { linked = refl }

one_of : (c : ℕ) → 0 < times c user_rows → (c ≡ 40) ⊎ (c ≡ 48)
one_of c o = elim (same_or 40 c) [
  | inl e ↦ inl (sym e)
  | inr e ↦ elim (same_or 48 c) [
    | inl f ↦ inr (sym f)
    | inr f ↦ (
        let t : nat_eq 40 c ≡ false = grind (arith, nat_tests) in
        let u : nat_eq 48 c ≡ false = grind (arith, nat_tests) in
        let z : 0 < 0 = rw (t, u) at o in absurd (omega (arith, z)))
  ]
]

list_is : (c : ℕ) → 0 < times c user_rows → IsList word 72 (word (c + 4)) (lists c)
list_is c o = elim (one_of c o) [
  | inl e ↦ subst (λ (x : ℕ). IsList word 72 (word (x + 4)) (lists x)) (sym e) booked_list
  | inr e ↦ subst (λ (x : ℕ). IsList word 72 (word (x + 4)) (lists x)) (sym e) no_list
]

head_is : (i : ℕ) → i < 8 → word (8 + i) ≡ 0
head_is zero l = refl
head_is (suc zero) l = refl
head_is (suc (suc zero)) l = refl
head_is (suc (suc (suc zero))) l = refl
head_is (suc (suc (suc (suc zero)))) l = refl
head_is (suc (suc (suc (suc (suc zero))))) l = refl
head_is (suc (suc (suc (suc (suc (suc zero)))))) l = refl
head_is (suc (suc (suc (suc (suc (suc (suc zero))))))) l = refl
head_is (suc (suc (suc (suc (suc (suc (suc (suc i)))))))) l = absurd (omega (arith, l))

taken : (b : ℕ) → b < 7 → used_in parts (16 + 8 * b) ≡ 1
taken zero l = refl
taken (suc zero) l = refl
taken (suc (suc zero)) l = refl
taken (suc (suc (suc zero))) l = refl
taken (suc (suc (suc (suc zero)))) l = refl
taken (suc (suc (suc (suc (suc zero))))) l = refl
taken (suc (suc (suc (suc (suc (suc zero)))))) l = refl
taken (suc (suc (suc (suc (suc (suc (suc b))))))) l = absurd (omega (arith, l))

none_more : (u : ℕ) → u ≡ 1 → 0 + u ≡ 1
none_more u e = omega arith

heap : IsHeap word 72 parts
heap = record {
  tables = table_is;
  lists = list_is;
  pool = record {
    lists = head_is;
    once = λ x b. none_more (used_in parts x) (subst (λ (y : ℕ). used_in parts y ≡ 1) (sym b.1.1)
        (taken b.0 (omega (arith, b.1.0, b.1.1))));
    all = refl;
  };
}

items_are : (kind : Kind) → entries (table_of stock kind) ≡ items_in word (tables (kind_number kind))
items_are Car = entries-from_sorted nat_cmp cars tt
items_are Flight = entries-from_sorted nat_cmp [] tt
items_are Room = entries-from_sorted nat_cmp rooms tt

customers_are : opened_bookings (entries stock.customers) ≡ customers_in word lists user_rows
customers_are =
    let first : entries bookings ≡ bookings_in word booked_rows = entries-from_sorted place_cmp booked tt in
    let second : entries no_bookings ≡ [] = entries-from_sorted place_cmp [] tt in
    ap opened_bookings (entries-from_sorted nat_cmp users tt) ∙ (λ j. (7, first j) ∷ (8, second j) ∷ [])

pub stock_represents : Represents word 72 [] stock
stock_represents = record {
  size = refl;
  parts = parts;
  heap = heap;
  held = refl;
  items = items_are;
  customers = customers_are;
}

-- an entry that is found is one of the entries
IsIn : {K X : Type 0} → K → X → List (K × X) → Type 0
IsIn k x [] = ⊥
IsIn k x (e ∷ es) = ((k ≡ e.0) × (x ≡ e.1)) ⊎ IsIn k x es

module _ {K X : Type 0} {R : K → K → Ordering} (o : IsTotalOrder R) (same : IsAntisymmetric R) where
  found_in : (es : List (K × X)) (q : K) (x : X) → find R q es ≡ Some x → IsIn q x es
  unfolding IsIn
  found_in [] q x e = absurd (let z : ◌≡◌ {A = Option X} None (Some x) = e in cc)
  found_in (y ∷ es) q x e = elim (either_key o same q y.0) [
    | inl is ↦ (
        let t : eq_by_cmp R q y.0 ≡ true = subst (λ (z : K). eq_by_cmp R q z ≡ true) is (ap is_eq (tied_itself o q)) in
        inl (is, sym (some_same y.1 x (rw t at e))))
    | inr apart ↦ (
        let t : eq_by_cmp R q y.0 ≡ false = apart_test o same q y.0 apart in
        inr (found_in es q x (rw t at e)))
  ]

-- the units that are held
units_is : (es : List (Place × Booking)) → T (is_sorted place_cmp es) → (p : Place) →
    units_of (from_sorted es) p ≡ option_map_or (λ (b : Booking). b.units) (find place_cmp p es) 0
units_is es t p = ap (λ (o : Option Booking). option_map_or (λ (b : Booking). b.units) o 0)
    (get-from_sorted place_cmp es p t)

held_is : (p : Place) → units_held stock p ≡ units_of bookings p + units_of no_bookings p
held_is p =
    let f : Bookings → ℕ = λ b. units_of b p in
    let e : units_held stock p ≡ sum_by f (bookings ∷ no_bookings ∷ []) =
    ap (λ (es : List (ℕ × Bookings)). sum_by f (map (λ (x : ℕ × Bookings). x.1) es))
    (entries-from_sorted nat_cmp users tt) in
    omega (arith, e, sum_by-cons f bookings (no_bookings ∷ []), sum_by-cons f no_bookings [])

car_held : units_held stock (Car, 1) ≡ 2
car_held =
    let a : units_of bookings (Car, 1) ≡ 2 = units_is booked tt (Car, 1) in
    let b : units_of no_bookings (Car, 1) ≡ 0 = units_is [] tt (Car, 1) in
    omega (arith, held_is (Car, 1), a, b)

other_held : units_held stock (Car, 2) ≡ 0
other_held =
    let a : units_of bookings (Car, 2) ≡ 0 = units_is booked tt (Car, 2) in
    let b : units_of no_bookings (Car, 2) ≡ 0 = units_is [] tt (Car, 2) in
    omega (arith, held_is (Car, 2), a, b)

room_held : units_held stock (Room, 9) ≡ 1
room_held =
    let a : units_of bookings (Room, 9) ≡ 1 = units_is booked tt (Room, 9) in
    let b : units_of no_bookings (Room, 9) ≡ 0 = units_is [] tt (Room, 9) in
    omega (arith, held_is (Room, 9), a, b)

item_is : (kind : Kind) (id : ℕ) (item : Item) → item_of stock kind id ≡ Some item → IsItem stock kind id item
unfolding IsIn
item_is Car id item e = elim (found_in nat_cmp_total nat_cmp-IsAntisymmetric cars id item
    (sym (get-from_sorted nat_cmp cars id tt) ∙ e)) [
      | inl h ↦ subst (λ (p : ℕ × Item). IsItem stock Car p.0 p.1) (λ j. (sym h.0 j, sym h.1 j))
          (record {
            id_range = id_between 1 (omega arith) (omega arith);
            some_units = omega arith;
            few_units = omega arith;
            price_range = omega arith;
            counts = refl;
            held =
                sym car_held;
          })
      | inr r ↦ elim r [
        | inl h ↦ subst (λ (p : ℕ × Item). IsItem stock Car p.0 p.1) (λ j. (sym h.0 j, sym h.1 j))
            (record {
              id_range = id_between 2 (omega arith) (omega arith);
              some_units = omega arith;
              few_units = omega arith;
              price_range = omega arith;
              counts = refl;
              held =
                  sym other_held;
            })
        | inr z ↦ absurd z
      ]
    ]
item_is Flight id item e = absurd (found_in nat_cmp_total nat_cmp-IsAntisymmetric [] id item
    (sym (get-from_sorted nat_cmp [] id tt) ∙ e))
item_is Room id item e = elim (found_in nat_cmp_total nat_cmp-IsAntisymmetric rooms id item
    (sym (get-from_sorted nat_cmp rooms id tt) ∙ e)) [
      | inl h ↦ subst (λ (p : ℕ × Item). IsItem stock Room p.0 p.1) (λ j. (sym h.0 j, sym h.1 j))
          (record {
            id_range = id_between 9 (omega arith) (omega arith);
            some_units = omega arith;
            few_units = omega arith;
            price_range = omega arith;
            counts = refl;
            held =
                sym room_held;
          })
      | inr z ↦ absurd z
    ]

user_is : (id : ℕ) (b : Bookings) → bookings_of stock id ≡ Some b → IsIn id b users
user_is id b e = found_in nat_cmp_total nat_cmp-IsAntisymmetric users id b (sym (get-from_sorted nat_cmp users id tt) ∙
    e)

some_car : IsSome (item_of stock Car 1)
some_car = subst IsSome (sym (get-from_sorted nat_cmp cars 1 tt)) (ap is_some {x = Some car} refl)

some_room : IsSome (item_of stock Room 9)
some_room = subst IsSome (sym (get-from_sorted nat_cmp rooms 9 tt)) (ap is_some {x = Some room} refl)

booking_is : (kind : Kind) (id : ℕ) (b : Booking) → get bookings (kind, id) ≡ Some b → IsBooking stock kind id b
unfolding IsIn
booking_is kind id b e = elim (found_in place_cmp_total place_cmp-IsAntisymmetric booked (kind, id) b
    (sym (get-from_sorted place_cmp booked (kind, id) tt) ∙ e)) [
      | inl h ↦ subst (λ (p : Place × Booking). IsBooking stock p.0.0 p.0.1 p.1) (λ j. (sym h.0 j, sym h.1 j))
          (record { item = some_car; some_units = omega arith; few_units = omega arith; sum_range = omega arith })
      | inr r ↦ elim r [
        | inl h ↦ subst (λ (p : Place × Booking). IsBooking stock p.0.0 p.0.1 p.1) (λ j. (sym h.0 j, sym h.1 j))
            (record { item = some_room; some_units = omega arith; few_units = omega arith; sum_range = omega arith })
        | inr z ↦ absurd z
      ]
    ]

length_of : {K X : Type 0} (R : K → K → Ordering) (es : List (K × X)) → T (is_sorted R es) →
    len (from_sorted {R = R} es) ≡ length es
length_of {K} {X} R es t = len-entries (from_sorted {R = R} es) ∙ ap (λ (z : List (K × X)). length z)
    (entries-from_sorted R es t)

size_is : size stock ≤ 7
size_is =
    let f : Bookings → ℕ = λ b. len b in
    let e : sum_by f (values stock.customers) ≡ sum_by f (bookings ∷ no_bookings ∷ []) =
    ap (λ (es : List (ℕ × Bookings)). sum_by f (map (λ (x : ℕ × Bookings). x.1) es))
    (entries-from_sorted nat_cmp users tt) in
    let a : len stock.cars ≡ 2 = length_of nat_cmp cars tt in
    let b : len stock.flights ≡ 0 = length_of nat_cmp [] tt in
    let c : len stock.rooms ≡ 1 = length_of nat_cmp rooms tt in
    let d : len stock.customers ≡ 2 = length_of nat_cmp users tt in
    let g : len bookings ≡ 2 = length_of place_cmp booked tt in
    let h : len no_bookings ≡ 0 = length_of place_cmp [] tt in
    omega (arith, e, a, b, c, d, g, h, sum_by-cons f bookings (no_bookings ∷ []), sum_by-cons f no_bookings [])

stock_small : IsSmall stock
unfolding IsIn
stock_small = record {
  balanced = record {
    room = size_is;
    items = item_is;
    customers = λ id b e. elim (user_is id b e) [
      | inl h ↦ subst (λ n. is_id n ≡ true) (sym h.0) (id_between 7 (omega arith) (omega arith))
      | inr r ↦ elim r [
        | inl h ↦ subst (λ n. is_id n ≡ true) (sym h.0)
            (id_between 8 (omega arith) (omega arith))
        | inr z ↦ absurd z
      ]
    ];
    bookings = λ customer b kind id x e f. elim (user_is customer b e) [
      | inl h ↦ booking_is kind id x (ap (λ (z : Bookings). get z (kind, id)) (sym h.1) ∙ f)
      | inr r ↦ elim r [
        | inl h ↦ absurd (found_in place_cmp_total place_cmp-IsAntisymmetric [] (kind, id) x
            (sym (get-from_sorted place_cmp [] (kind, id) tt) ∙
            (ap (λ (z : Bookings). get z (kind, id)) (sym h.1) ∙ f)))
        | inr z ↦ absurd z
      ]
    ];
  };
  small = omega arith;
}

-- plain memory whose words represent a state holds it
flat_holds : (xs : List ℕ) (s : State) → 16 ≤ length xs → length xs ≤ 2 ^ 32 →
    Represents (λ (a : ℕ). slice_index xs a) (length xs) [] s → IsSmall s → HoldsState (flat_view xs)
flat_holds xs s low high h small = record {
  inside = low;
  small = high;
  under = λ image i. (
    s,
    record {
      represents = subst (λ (n : ℕ). Represents (mem (flat_view xs) image) n [] s) (sym i.sees.fits)
          (same_words (λ (a : ℕ). slice_index xs a) (mem (flat_view xs) image) (length xs) [] s h
          (λ x l. ap (λ (o : Option ℕ). unwrap_or o (slice_index image x)) (get_at xs x l)));
      small = small;
    },
  );
}

pub stock_holds : (xs : List ℕ) → xs ≡ stock_words → HoldsState (flat_view xs)
stock_holds xs e = subst (λ (z : List ℕ). HoldsState (flat_view z)) (sym e)
    (flat_holds stock_words stock (omega arith) (omega arith) stock_represents stock_small)
