-- Each change that a command makes keeps a state balanced.
use Rattle.std.proofs.Common.{◌≡◌, ◌≢◌, ◌⊎◌, ℕ, ◌+◌, ◌*◌, ◌≤◌, true, refl, ap, sym, subst, ◌∙◌, arith, inl, inr}
use Rattle.std.specs.Prelude.{Some, None, IsSome, is_some, sum_by, unwrap_or}
use Rattle.std.specs.Option.{option_map_or}
use Rattle.std.specs.Cmp.{nat_cmp_total}
use Rattle.std.specs.FinMap as map
use Rattle.std.specs.FinMap.{get, insert, len, values, empty, nat_cmp-IsAntisymmetric}
use Rattle.vac_model.specs.declared.items.Kind.{Kind}
use Rattle.vac_model.specs.declared.items.Item.{Item}
use Rattle.vac_model.specs.State.{State, Booking, Bookings, Place, ItemTable, table_of, item_of, with_item, bookings_of}
use Rattle.vac_model.specs.State.{with_bookings, without_customer, units_of, units_held, size, place_cmp}
use Rattle.vac_model.specs.Step.{total_limit, unit_limit}
use Rattle.vac_model.specs.Amounts.{is_id}
use Rattle.vac_model.specs.Balanced.{IsBalanced, IsItem, IsBooking}
use Rattle.vac_model.proofs.Views.{not_some}
use Rattle.vac_model.proofs.Sums.{get_here, get_elsewhere, either_key, sum-insert, sum-remove, sum_le, len_pushed}
use Rattle.vac_model.proofs.Sums.{len_inserted, len_removed}
use Rattle.vac_model.proofs.Places.{place_cmp_total, place_cmp-IsAntisymmetric}
use Rattle.vac_model.proofs.States.{item_of-with_bookings, customers-with_table, capacity-with_table}
use Rattle.vac_model.proofs.States.{table_of-with_table, size-with_table, other_table}

pub some_same : {X : Type 0} (x y : X) → Some x ≡ Some y → x ≡ y
some_same x y e = ap (λ o. unwrap_or o x) e

-- an item after one was put, for the same item and for another
pub item_here : (s : State) (kind : Kind) (id : ℕ) (item : Item) →
    item_of (with_item s kind id item) kind id ≡ Some item
item_here s kind id item =
    ap (λ (t : ItemTable). get t id) (table_of-with_table s kind (insert (table_of s kind) id item))
    ∙ get_here nat_cmp_total nat_cmp-IsAntisymmetric (table_of s kind) id item

pub item_elsewhere : (s : State) (kind : Kind) (id : ℕ) (item : Item) (k : Kind) (i : ℕ) →
    (◌≢◌ {A = Place} (k, i) (kind, id))
    → item_of (with_item s kind id item) k i ≡ item_of s k i
item_elsewhere s kind id item k i apart = elim (other_table s kind (insert (table_of s kind) id item) k) [
  | inl same ↦
      let place : i ≢ id = λ e. apart (λ j. (same.0 j, e j)) in
      ap (λ (t : ItemTable). get t i) same.1 ∙ get_elsewhere nat_cmp_total nat_cmp-IsAntisymmetric
      (table_of s kind) id item i place
      ∙ ap (λ x. item_of s x i) (sym same.0)
  | inr other ↦ ap (λ (t : ItemTable). get t i) other
]

-- an item that is found after one was put is the one put or was there before
pub found_after : (s : State) (kind : Kind) (id : ℕ) (item : Item) (k : Kind) (i : ℕ) (x : Item) →
    item_of (with_item s kind id item) k i ≡ Some x
    → ((◌≡◌ {A = Place} (k, i) (kind, id)) × (x ≡ item)) ⊎ ((◌≢◌ {A = Place} (k, i) (kind, id)) ×
    (item_of s k i ≡ Some x))
found_after s kind id item k i x h = elim (either_key place_cmp_total place_cmp-IsAntisymmetric (k, i) (kind, id)) [
  | inl same ↦ inl (
    same,
    some_same x item (sym h ∙ ap (λ (p : Place). item_of (with_item s kind id item) p.0 p.1) same
        ∙ item_here s kind id item),
  )
  | inr apart ↦ inr (apart, sym (item_elsewhere s kind id item k i apart) ∙ h)
]

-- an existing item still exists, with the same numbers or others
pub there_after : (s : State) (kind : Kind) (id : ℕ) (item : Item) (k : Kind) (i : ℕ) → IsSome (item_of s k i) →
    IsSome (item_of (with_item s kind id item) k i)
there_after s kind id item k i h = elim (either_key place_cmp_total place_cmp-IsAntisymmetric (k, i) (kind, id)) [
  | inl same ↦ subst IsSome (sym (ap (λ (p : Place). item_of (with_item s kind id item) p.0 p.1) same ∙
      item_here s kind id item)) (ap is_some {x = Some item} refl)
  | inr apart ↦ subst IsSome (sym (item_elsewhere s kind id item k i apart)) h
]

-- the units that customers hold do not depend on the tables
pub held-with_item : (s : State) (kind : Kind) (id : ℕ) (item : Item) (place : Place) →
    units_held (with_item s kind id item) place ≡ units_held s place
held-with_item s kind id item place =
    ap (λ cs. sum_by (λ b. units_of b place) (values cs)) (customers-with_table s kind
    (insert (table_of s kind) id item))

pub bookings-with_item : (s : State) (kind : Kind) (id : ℕ) (item : Item) (c : ℕ) →
    bookings_of (with_item s kind id item) c ≡ bookings_of s c
bookings-with_item s kind id item c = ap (λ cs. get cs c) (customers-with_table s kind
    (insert (table_of s kind) id item))

-- the size after an item was put, if the item existed and if it did not
pub size_replaced : (s : State) (kind : Kind) (id : ℕ) (item old : Item) → item_of s kind id ≡ Some old →
    size (with_item s kind id item) ≡ size s
size_replaced s kind id item old h =
    omega (
      arith,
      size-with_table s kind (insert (table_of s kind) id item),
      len_inserted nat_cmp_total nat_cmp-IsAntisymmetric (table_of s kind) id item old h,
    )

pub size_more : (s : State) (kind : Kind) (id : ℕ) (item : Item) → item_of s kind id ≡ None →
    size (with_item s kind id item) ≡ size s + 1
size_more s kind id item h =
    omega (
      arith,
      size-with_table s kind (insert (table_of s kind) id item),
      len_pushed nat_cmp_total nat_cmp-IsAntisymmetric (table_of s kind) id item h,
    )

-- an item is put whose numbers fit
pub balanced-with_item : (s : State) (kind : Kind) (id : ℕ) (item : Item) → IsBalanced s → IsItem s kind id item →
    size (with_item s kind id item) ≤ s.capacity
    → IsBalanced (with_item s kind id item)
balanced-with_item s kind id item balanced fits room = record {
  room = rw (capacity-with_table s kind (insert (table_of s kind) id item)) room;
  items = λ k i x h. elim (found_after s kind id item k i x h) [
    | inl here ↦ along s kind id item k i x here.0 here.1 fits
    | inr there ↦ moved s kind id item k i x (balanced.items k i x there.1)
  ];
  customers = λ c b h. balanced.customers c b (sym (bookings-with_item s kind id item c) ∙ h);
  bookings = λ c b k i x h there.
      let before = balanced.bookings c b k i x (sym (bookings-with_item s kind id item c) ∙ h) there in
      record {
        item = there_after s kind id item k i before.item;
        some_units = before.some_units;
        few_units = before.few_units;
        sum_range = before.sum_range;
      };
}
  where
    moved : (s : State) (kind : Kind) (id : ℕ) (item : Item) (k : Kind) (i : ℕ) (x : Item) → IsItem s k i x →
        IsItem (with_item s kind id item) k i x
    moved s kind id item k i x f = record {
      id_range = f.id_range;
      some_units = f.some_units;
      few_units = f.few_units;
      price_range = f.price_range;
      counts = f.counts;
      held = f.held ∙ sym (held-with_item s kind id item (k, i));
    }

    along : (s : State) (kind : Kind) (id : ℕ) (item : Item) (k : Kind) (i : ℕ) (x : Item) →
        (◌≡◌ {A = Place} (k, i) (kind, id)) → x ≡ item → IsItem s kind id item
        → IsItem (with_item s kind id item) k i x
    along s kind id item k i x place same f =
        moved s kind id item k i x (subst (λ y. IsItem s k i y) (sym same)
        (subst (λ (p : Place). IsItem s p.0 p.1 item) (sym place) f))

-- the size after a customer's bookings changed
pub size-with_bookings : (s : State) (c : ℕ) (b b' : Bookings) → bookings_of s c ≡ Some b →
    size (with_bookings s c b') + len b ≡ size s + len b'
size-with_bookings s c b b' h =
    let sums = sum-insert nat_cmp_total nat_cmp-IsAntisymmetric len s.customers c b' in
    let old : option_map_or len (get s.customers c) 0 ≡ len b = ap (λ o. option_map_or {T = Bookings} len o 0) h in
    omega (arith, sums, old, len_inserted nat_cmp_total nat_cmp-IsAntisymmetric s.customers c b' b h)

-- the size after a customer came, and after one left
pub size-new_customer : (s : State) (c : ℕ) → bookings_of s c ≡ None → size (with_bookings s c empty) ≡ size s + 1
size-new_customer s c h =
    let sums = sum-insert nat_cmp_total nat_cmp-IsAntisymmetric len s.customers c empty in
    let old : option_map_or len (get s.customers c) 0 ≡ 0 = ap (λ o. option_map_or {T = Bookings} len o 0) h in
    let none : len (empty {X = Booking} {R = place_cmp}) ≡ 0 = map.len-empty place_cmp Booking in
    omega (arith, sums, old, none, len_pushed nat_cmp_total nat_cmp-IsAntisymmetric s.customers c empty h)

pub size-without_customer : (s : State) (c : ℕ) (b : Bookings) → bookings_of s c ≡ Some b →
    size (without_customer s c) + 1 + len b ≡ size s
size-without_customer s c b h =
    omega (
      arith,
      sum-remove nat_cmp_total nat_cmp-IsAntisymmetric len s.customers c b h,
      len_removed nat_cmp_total nat_cmp-IsAntisymmetric s.customers c b h,
    )

-- the units held after a customer's bookings changed
pub held-with_bookings : (s : State) (c : ℕ) (b b' : Bookings) (place : Place) → bookings_of s c ≡ Some b
    → units_held (with_bookings s c b') place + units_of b place ≡ units_held s place + units_of b' place
held-with_bookings s c b b' place h =
    let sums = sum-insert nat_cmp_total nat_cmp-IsAntisymmetric (λ x. units_of x place) s.customers c b' in
    let old : option_map_or (λ (x : Bookings). units_of x place) (get s.customers c) 0 ≡ units_of b place =
    ap (λ o. option_map_or {T = Bookings} (λ x. units_of x place) o 0) h in
    omega (arith, sums, old)

no_units : (place : Place) → units_of empty place ≡ 0
no_units place = ap (λ o. option_map_or {T = Booking} (λ b. b.units) o 0) (map.get-empty place_cmp place)

pub held-new_customer : (s : State) (c : ℕ) (place : Place) → bookings_of s c ≡ None →
    units_held (with_bookings s c empty) place ≡ units_held s place
held-new_customer s c place h =
    let sums = sum-insert nat_cmp_total nat_cmp-IsAntisymmetric (λ x. units_of x place) s.customers c empty in
    let old : option_map_or (λ (x : Bookings). units_of x place) (get s.customers c) 0 ≡ 0 =
    ap (λ o. option_map_or {T = Bookings} (λ x. units_of x place) o 0) h in
    omega (arith, sums, old, no_units place)

pub held-without_customer : (s : State) (c : ℕ) (b : Bookings) (place : Place) → bookings_of s c ≡ Some b
    → units_held (without_customer s c) place + units_of b place ≡ units_held s place
held-without_customer s c b place h = sum-remove nat_cmp_total nat_cmp-IsAntisymmetric
    (λ x. units_of x place) s.customers c b h

-- the bookings that are found after a customer's changed
pub bookings_after : (s : State) (c : ℕ) (b' : Bookings) (q : ℕ) (x : Bookings) →
    bookings_of (with_bookings s c b') q ≡ Some x
    → ((q ≡ c) × (x ≡ b')) ⊎ ((q ≢ c) × (bookings_of s q ≡ Some x))
bookings_after s c b' q x h = elim (either_key nat_cmp_total nat_cmp-IsAntisymmetric q c) [
  | inl same ↦ inl (
    same,
    some_same x b' (sym h ∙ ap (get (insert s.customers c b')) same ∙
        get_here nat_cmp_total nat_cmp-IsAntisymmetric s.customers c b'),
  )
  | inr apart ↦ inr (apart, sym (get_elsewhere nat_cmp_total nat_cmp-IsAntisymmetric s.customers c b' q apart) ∙ h)
]

-- a booking whose numbers are in their ranges
pub record HasRange (b : Booking) : Type 0 where
  pub some_units : 1 ≤ b.units
  pub few_units : b.units ≤ unit_limit
  pub sum_range : b.sum ≤ b.units * 1000000

-- one customer's booking of one item changes, and the item with it
pub record Moves (s : State) (kind : Kind) (id : ℕ) (b b' : Bookings) (item item' : Item) : Type 0 where
  pub total : item'.total ≡ item.total
  pub price : item'.price ≡ item.price
  pub counts : item'.used + item'.free ≡ item.total
  pub units : item'.used + units_of b (kind, id) ≡ item.used + units_of b' (kind, id)
  pub others : (q : Place) → q ≢ (kind, id) → get b' q ≡ get b q
  pub range : (x : Booking) → get b' (kind, id) ≡ Some x → HasRange x
  pub size : size s + len b' ≤ s.capacity + len b

module _ (s : State) (c : ℕ) (kind : Kind) (id : ℕ) (b b' : Bookings) (item item' : Item) (balanced : IsBalanced s)
    (h : bookings_of s c ≡ Some b) (there : item_of s kind id ≡ Some item) (m : Moves s kind id b b' item item') where
  middle : State
  middle = with_bookings s c b'

  after : State
  after = with_item (with_bookings s c b') kind id item'

  item_middle : (k : Kind) (i : ℕ) → item_of (with_bookings s c b') k i ≡ item_of s k i
  item_middle k i = item_of-with_bookings s c b' k i

  -- the item that changed
  moved_item : IsItem (with_item (with_bookings s c b') kind id item') kind id item'
  moved_item =
      let f = balanced.items kind id item there in
      let held = held-with_bookings s c b b' (kind, id) h in
      let same = held-with_item (with_bookings s c b') kind id item' (kind, id) in
      record {
        id_range = f.id_range;
        some_units = omega (arith, f.some_units, m.total);
        few_units = omega (arith, f.few_units, m.total);
        price_range = omega (arith, f.price_range, m.price);
        counts = m.counts ∙ sym m.total;
        held = omega (arith, f.held, held, same, m.units);
      }

  -- the other items
  kept_item : (k : Kind) (i : ℕ) (x : Item) → (◌≢◌ {A = Place} (k, i) (kind, id)) → item_of s k i ≡ Some x
      → IsItem (with_item (with_bookings s c b') kind id item') k i x
  kept_item k i x apart e =
      let f = balanced.items k i x e in
      let held = held-with_bookings s c b b' (k, i) h in
      let same = held-with_item (with_bookings s c b') kind id item' (k, i) in
      let units : units_of b' (k, i) ≡ units_of b (k, i) = ap (λ o. option_map_or {T = Booking} (λ x. x.units) o 0)
      (m.others (k, i) apart) in
      record {
        id_range = f.id_range;
        some_units = f.some_units;
        few_units = f.few_units;
        price_range = f.price_range;
        counts = f.counts;
        held = omega (arith, f.held, held, same, units);
      }

  still : (k : Kind) (i : ℕ) → IsSome (item_of s k i) → IsSome
      (item_of (with_item (with_bookings s c b') kind id item') k i)
  still k i e = there_after (with_bookings s c b') kind id item' k i (subst IsSome (sym (item_middle k i)) e)

  changed : (k : Kind) (i : ℕ) (x : Booking) → get b' (k, i) ≡ Some x →
      IsBooking (with_item (with_bookings s c b') kind id item') k i x
  changed k i x e = elim (either_key place_cmp_total place_cmp-IsAntisymmetric (k, i) (kind, id)) [
    | inl same ↦
        let r = m.range x (ap (get b') (sym same) ∙ e) in
        let present : IsSome (item_of s k i) = subst (λ (p : Place). IsSome (item_of s p.0 p.1)) (sym same)
        (subst IsSome (sym there) (ap is_some {x = Some item} refl)) in
        record { item = still k i present; some_units = r.some_units; few_units = r.few_units; sum_range = r.sum_range }
    | inr apart ↦
        let r = balanced.bookings c b k i x h (sym (m.others (k, i) apart) ∙ e) in
        record { item = still k i r.item; some_units = r.some_units; few_units = r.few_units; sum_range = r.sum_range }
  ]

  pub balanced-moves : IsBalanced (with_item (with_bookings s c b') kind id item')
  balanced-moves =
      let sizes = size-with_bookings s c b b' h in
      let size_same = size_replaced (with_bookings s c b') kind id item' item (item_middle kind id ∙ there) in
      record {
        room = rw (capacity-with_table (with_bookings s c b') kind
            (insert (table_of (with_bookings s c b') kind) id item')) (omega (arith, sizes, size_same, m.size));
        items = λ k i x e. elim (found_after (with_bookings s c b') kind id item' k i x e) [
          | inl here ↦ subst (λ y. IsItem (with_item (with_bookings s c b') kind id item') k i y) (sym here.1)
              (subst (λ (p : Place). IsItem (with_item (with_bookings s c b') kind id item') p.0 p.1 item')
              (sym here.0) moved_item)
          | inr other ↦ kept_item k i x other.0 (sym (item_middle k i) ∙ other.1)
        ];
        customers = λ q x e. elim (bookings_after s c b' q x
            (sym (bookings-with_item (with_bookings s c b') kind id item' q) ∙ e)) [
              | inl here ↦ subst (λ n. is_id n ≡ true) (sym here.0) (balanced.customers c b h)
              | inr other ↦ balanced.customers q x other.1
            ];
        bookings = λ q x k i y e f. elim (bookings_after s c b' q x
            (sym (bookings-with_item (with_bookings s c b') kind id item' q) ∙ e)) [
              | inl here ↦ changed k i y (ap (λ (z : Bookings). get z (k, i)) (sym here.1) ∙ f)
              | inr other ↦
                  let r = balanced.bookings q x k i y other.1 f in
                  record {
                    item = still k i r.item;
                    some_units = r.some_units;
                    few_units = r.few_units;
                    sum_range = r.sum_range;
                  }
            ];
      }

-- no customer has booked an item that does not exist
pub held_missing : (s : State) (kind : Kind) (id : ℕ) → IsBalanced s → item_of s kind id ≡ None →
    units_held s (kind, id) ≡ 0
held_missing s kind id balanced none =
    let bound = sum_le nat_cmp_total nat_cmp-IsAntisymmetric (λ b. units_of b (kind, id)) 0 s.customers
    (λ c b h. nothing c b h) in
    omega (arith, bound)
  where
    nothing : (c : ℕ) (b : Bookings) → bookings_of s c ≡ Some b → units_of b (kind, id) ≤ 0
    nothing c b h = elim (get b (kind, id)) as (λ o. get b (kind, id) ≡ o →
        option_map_or {T = Booking} (λ x. x.units) o 0 ≤ 0) [
          | None ↦ λ e. omega arith
          | Some x ↦ λ e. absurd (not_some (item_of s kind id) none (balanced.bookings c b kind id x h e).item)
        ] refl

-- an item that is new
pub balanced-new_item : (s : State) (kind : Kind) (id num price : ℕ) → IsBalanced s → is_id id ≡ true → 1 ≤ num →
    num ≤ total_limit → price ≤ 1000000
    → item_of s kind id ≡ None → size s + 1 ≤ s.capacity → IsBalanced
    (with_item s kind id (record { used = 0; free = num; total = num; price = price }))
balanced-new_item s kind id num price balanced ids some few cheap none room =
    balanced-with_item s kind id _ balanced
    (record {
      id_range = ids;
      some_units = some;
      few_units = few;
      price_range = cheap;
      counts = omega arith;
      held = omega (arith, held_missing s kind id balanced none);
    })
    (omega (arith, size_more s kind id (record { used = 0; free = num; total = num; price = price }) none, room))

-- other numbers of an existing item
pub balanced-replaced : (s : State) (kind : Kind) (id : ℕ) (item old : Item) → IsBalanced s →
    item_of s kind id ≡ Some old → item.used ≡ old.used → 1 ≤ item.total
    → item.total ≤ total_limit → item.price ≤ 1000000 → item.used + item.free ≡ item.total →
    IsBalanced (with_item s kind id item)
balanced-replaced s kind id item old balanced there used some few cheap counts =
    let f = balanced.items kind id old there in
    balanced-with_item s kind id item balanced
    (record {
      id_range = f.id_range;
      some_units = some;
      few_units = few;
      price_range = cheap;
      counts = counts;
      held = used ∙ f.held;
    })
    (omega (arith, size_replaced s kind id item old there, balanced.room))

-- a new customer without bookings
pub balanced-new_customer : (s : State) (c : ℕ) → IsBalanced s → is_id c ≡ true → bookings_of s c ≡ None →
    size s + 1 ≤ s.capacity → IsBalanced (with_bookings s c empty)
balanced-new_customer s c balanced ids none room = record {
  room = omega (arith, size-new_customer s c none, room);
  items = λ k i x e.
      let f = balanced.items k i x (sym (item_of-with_bookings s c empty k i) ∙ e) in
      record {
        id_range = f.id_range;
        some_units = f.some_units;
        few_units = f.few_units;
        price_range = f.price_range;
        counts = f.counts;
        held = f.held ∙ sym (held-new_customer s c (k, i) none);
      };
  customers = λ q x e. elim (bookings_after s c empty q x e) [
    | inl here ↦
        subst (λ n. is_id n ≡ true) (sym here.0) ids
    | inr other ↦ balanced.customers q x other.1
  ];
  bookings = λ q x k i y e f. elim (bookings_after s c empty q x e) [
    | inl here ↦
        let gone : None ≡ Some y = sym (map.get-empty place_cmp (k, i)) ∙ ap (λ (z : Bookings). get z (k, i))
        (sym here.1) ∙ f in
        absurd (let never : None ≡ Some y = gone in cc)
    | inr other ↦
        let r = balanced.bookings q x k i y other.1 f in
        record {
          item = subst IsSome (sym (item_of-with_bookings s c empty k i)) r.item;
          some_units = r.some_units;
          few_units = r.few_units;
          sum_range = r.sum_range;
        }
  ];
}
