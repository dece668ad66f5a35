-- An item or a customer leaves: a state stays balanced.
use Rattle.std.proofs.Common.{◌≡◌, ◌≢◌, ℕ, ◌+◌, ◌-◌, true, cond, List, [], ◌∷◌, refl, ap, sym, subst, ◌∙◌, arith, inl}
use Rattle.std.proofs.Common.{inr}
use Rattle.std.specs.Prelude.{Option, Some, None, IsSome, is_some, sum_by, T}
use Rattle.std.specs.Option.{option_map, option_map_or}
use Rattle.std.specs.Cmp.{nat_cmp_total, tied_itself}
use Rattle.std.specs.Ordering.{eq_by_cmp, is_eq}
use Rattle.std.specs.FinMap as map
use Rattle.std.specs.FinMap.{find, is_sorted, get, insert, remove, entries, nat_cmp-IsAntisymmetric}
use Rattle.vac_model.specs.declared.items.Kind.{Kind}
use Rattle.vac_model.specs.declared.items.Item.{Item}
use Rattle.vac_model.specs.State.{State, Booking, Bookings, Place, ItemTable, table_of, item_of, without_item}
use Rattle.vac_model.specs.State.{bookings_of}
use Rattle.vac_model.specs.State.{without_customer, units_of, units_held, size, place_cmp}
use Rattle.vac_model.specs.Step.{given_back, give_back, give_back_all}
use Rattle.vac_model.specs.Fits.{units_among, IsItemInRange, CanGiveBack}
use Rattle.vac_model.specs.Balanced.{IsBalanced, IsItem, IsBooking}
use Rattle.vac_model.proofs.Sums.{get_removed, removed_elsewhere, either_key, apart_test, len_removed, remove_missing}
use Rattle.vac_model.proofs.Sums.{find_below, first, second}
use Rattle.vac_model.proofs.Places.{place_cmp_total, place_cmp-IsAntisymmetric}
use Rattle.vac_model.proofs.States.{item_of-without_customer, customers-with_table, capacity-with_table}
use Rattle.vac_model.proofs.States.{table_of-with_table, size-with_table, other_table}
use Rattle.vac_model.proofs.Holdings.{units-used, units_of-used}
use Rattle.vac_model.proofs.Balance.{some_same, item_here, item_elsewhere, size_replaced, size-without_customer}
use Rattle.vac_model.proofs.Balance.{held-without_customer}

-- an item after one was removed, for the same item and for another
gone_here : (s : State) (kind : Kind) (id : ℕ) → item_of (without_item s kind id) kind id ≡ None
gone_here s kind id =
    ap (λ (t : ItemTable). get t id) (table_of-with_table s kind (remove (table_of s kind) id)) ∙
    get_removed nat_cmp_total nat_cmp-IsAntisymmetric (table_of s kind) id

gone_elsewhere : (s : State) (kind : Kind) (id : ℕ) (k : Kind) (i : ℕ) → (◌≢◌ {A = Place} (k, i) (kind, id)) →
    item_of (without_item s kind id) k i ≡ item_of s k i
gone_elsewhere s kind id k i apart = elim (other_table s kind (remove (table_of s kind) id) k) [
  | inl same ↦
      let place : i ≢ id = λ e. apart (λ j. (same.0 j, e j)) in
      ap (λ (t : ItemTable). get t i) same.1 ∙ removed_elsewhere nat_cmp_total nat_cmp-IsAntisymmetric
      (table_of s kind) id i place
      ∙ ap (λ x. item_of s x i) (sym same.0)
  | inr other ↦ ap (λ (t : ItemTable). get t i) other
]

module _ (s : State) (kind : Kind) (id : ℕ) (old : Item) (balanced : IsBalanced s)
    (there : item_of s kind id ≡ Some old) (unused : old.used ≡ 0) where
  same_customers : (without_item s kind id).customers ≡ s.customers
  same_customers = customers-with_table s kind (remove (table_of s kind) id)

  same_bookings : (c : ℕ) → bookings_of (without_item s kind id) c ≡ bookings_of s c
  same_bookings c = ap (λ cs. get cs c) same_customers

  same_held : (place : Place) → units_held (without_item s kind id) place ≡ units_held s place
  same_held place = ap (λ cs. sum_by (λ b. units_of b place) (map.values cs)) same_customers

  still : (k : Kind) (i : ℕ) (x : Item) → item_of (without_item s kind id) k i ≡ Some x →
      IsItem (without_item s kind id) k i x
  still k i x e = elim (either_key place_cmp_total place_cmp-IsAntisymmetric (k, i) (kind, id)) [
    | inl same ↦
        let gone : None ≡ Some x = sym (gone_here s kind id) ∙
        ap (λ (p : Place). item_of (without_item s kind id) p.0 p.1) (sym same) ∙ e in
        absurd (let never : None ≡ Some x = gone in cc)
    | inr apart ↦
        let f = balanced.items k i x (sym (gone_elsewhere s kind id k i apart) ∙ e) in
        record {
          id_range = f.id_range;
          some_units = f.some_units;
          few_units = f.few_units;
          price_range = f.price_range;
          counts = f.counts;
          held = f.held ∙ sym (same_held (k, i));
        }
  ]

  booked : (c : ℕ) (b : Bookings) (k : Kind) (i : ℕ) (x : Booking) → bookings_of s c ≡ Some b → get b (k, i) ≡ Some x →
      IsBooking (without_item s kind id) k i x
  booked c b k i x e f =
      let r = balanced.bookings c b k i x e f in
      elim (either_key place_cmp_total place_cmp-IsAntisymmetric (k, i) (kind, id)) [
        | inl same ↦
            let few = units-used s c b kind id old x balanced e there (ap (get b) (sym same) ∙ f) in
            absurd (omega (arith, few, unused, r.some_units))
        | inr apart ↦ record {
          item = subst IsSome (sym (gone_elsewhere s kind id k i apart)) r.item;
          some_units = r.some_units;
          few_units = r.few_units;
          sum_range = r.sum_range;
        }
      ]

  pub balanced-without_item : IsBalanced (without_item s kind id)
  balanced-without_item =
      let sizes = size-with_table s kind (remove (table_of s kind) id) in
      let less = len_removed nat_cmp_total nat_cmp-IsAntisymmetric (table_of s kind) id old there in
      record {
        room = rw (capacity-with_table s kind (remove (table_of s kind) id))
            (omega (arith, sizes, less, balanced.room));
        items = still;
        customers = λ c b e. balanced.customers c b (sym (same_bookings c) ∙ e);
        bookings = λ c b k i x e f. booked c b k i x (sym (same_bookings c) ∙ e) f;
      }

-- the units that a look-up finds
abbrev found_units : Option Booking → ℕ
found_units o = option_map_or (λ b. b.units) o 0

plus_none : (a b : ℕ) → b ≡ 0 → a + b ≡ a
plus_none a b h = omega arith

none_plus : (a b : ℕ) → a ≡ b → 0 + a ≡ b
none_plus a b h = omega arith

units_in_sorted : (es : List (Place × Booking)) (q : Place) → T (is_sorted place_cmp es) →
    units_among es q ≡ found_units (find place_cmp q es)
units_in_sorted [] q h = refl
units_in_sorted (e ∷ es) q h =
    let rest = units_in_sorted es q (second _ _ h) in
    elim (either_key place_cmp_total place_cmp-IsAntisymmetric q e.0) [
      | inl same ↦
          let test : eq_by_cmp place_cmp q e.0 ≡ true = subst (λ x. eq_by_cmp place_cmp q x ≡ true) same
          (ap is_eq (tied_itself place_cmp_total q)) in
          let none : find place_cmp q es ≡ None = ap (λ x. find place_cmp x es) same ∙ find_below place_cmp e.0 es
          (first _ _ h) in
          let nothing : units_among es q ≡ 0 = rest ∙ ap found_units none in
          let sums : e.1.units + units_among es q ≡ e.1.units = plus_none e.1.units (units_among es q) nothing in
          ap (λ b. cond b e.1.units 0 + units_among es q) test ∙ sums ∙
          sym (ap (λ b. found_units (cond b (Some e.1) (find place_cmp q es))) test)
      | inr apart ↦
          let test = apart_test place_cmp_total place_cmp-IsAntisymmetric q e.0 apart in
          let sums : 0 + units_among es q ≡ found_units (find place_cmp q es) =
          none_plus (units_among es q) (found_units (find place_cmp q es)) rest in
          ap (λ b. cond b e.1.units 0 + units_among es q) test ∙ sums ∙
          sym (ap (λ b. found_units (cond b (Some e.1) (find place_cmp q es))) test)
    ]

pub units_in-entries : (b : Bookings) (q : Place) → units_among (entries b) q ≡ units_of b q
units_in-entries b q = units_in_sorted (entries b) q (map.entries_sorted b) ∙ ap found_units (sym (map.get-entries b q))

given_back_none : (x : Item) → given_back x 0 ≡ x
given_back_none x =
    let used : x.used - 0 ≡ x.used = omega arith in
    let free : x.free + 0 ≡ x.free = omega arith in
    λ i. record { used = used i; free = free i; total = x.total; price = x.price }

given_back_twice : (x : Item) (a b : ℕ) → given_back (given_back x a) b ≡ given_back x (a + b)
given_back_twice x a b =
    let used : x.used - a - b ≡ x.used - (a + b) = omega arith in
    let free : x.free + a + b ≡ x.free + (a + b) = omega arith in
    λ i. record { used = used i; free = free i; total = x.total; price = x.price }

-- an item after this many units were given back, if it exists
abbrev pub lowered : Option Item → ℕ → Option Item
lowered o n = option_map (λ x. given_back x n) o

lowered_none : (o : Option Item) → lowered o 0 ≡ o
lowered_none None = refl
lowered_none (Some x) = ap Some (given_back_none x)

lowered_twice : (o : Option Item) (a b : ℕ) → lowered (lowered o a) b ≡ lowered o (a + b)
lowered_twice None a b = refl
lowered_twice (Some x) a b = ap Some (given_back_twice x a b)

-- an item after one booking was given back
item_of-give_back : (s : State) (p : Place) (units : ℕ) (k : Kind) (i : ℕ)
    → item_of (give_back s p units (item_of s p.0 p.1)) k i ≡ lowered (item_of s k i)
    (cond (eq_by_cmp place_cmp (k, i) p) units 0)
item_of-give_back s p units k i =
    elim (either_key place_cmp_total place_cmp-IsAntisymmetric (k, i) p) [
      | inl same ↦
          let test : eq_by_cmp place_cmp (k, i) p ≡ true = subst (λ x. eq_by_cmp place_cmp (k, i) x ≡ true) same
          (ap is_eq (tied_itself place_cmp_total (k, i))) in
          here same ∙ sym (ap (λ b. lowered (item_of s k i) (cond b units 0)) test)
      | inr apart ↦
          elsewhere apart ∙ sym (ap (λ b. lowered (item_of s k i) (cond b units 0))
          (apart_test place_cmp_total place_cmp-IsAntisymmetric (k, i) p apart) ∙ lowered_none (item_of s k i))
    ]
  where
    at_place : (s : State) (p : Place) (units : ℕ) (o : Option Item) → item_of s p.0 p.1 ≡ o →
        item_of (give_back s p units o) p.0 p.1 ≡ lowered o units
    at_place s p units None e = e
    at_place s p units (Some x) e = item_here s p.0 p.1 (given_back x units)

    apart_from : (s : State) (p : Place) (units : ℕ) (o : Option Item) (k : Kind) (i : ℕ) → (k, i) ≢ p →
        item_of (give_back s p units o) k i ≡ item_of s k i
    apart_from s p units None k i apart = refl
    apart_from s p units (Some x) k i apart = item_elsewhere s p.0 p.1 (given_back x units) k i apart

    here : (k, i) ≡ p → item_of (give_back s p units (item_of s p.0 p.1)) k i ≡ lowered (item_of s k i) units
    here same =
        ap (λ (q : Place). item_of (give_back s p units (item_of s p.0 p.1)) q.0 q.1) same
        ∙ at_place s p units (item_of s p.0 p.1) refl
        ∙ ap (λ (q : Place). lowered (item_of s q.0 q.1) units) (sym same)

    elsewhere : (k, i) ≢ p → item_of (give_back s p units (item_of s p.0 p.1)) k i ≡ item_of s k i
    elsewhere apart = apart_from s p units (item_of s p.0 p.1) k i apart

-- an item after all these bookings were given back
pub item_of-give_back_all : (s : State) (es : List (Place × Booking)) (k : Kind) (i : ℕ) →
    item_of (give_back_all s es) k i ≡ lowered (item_of s k i) (units_among es (k, i))
item_of-give_back_all s [] k i = sym (lowered_none (item_of s k i))
item_of-give_back_all s (e ∷ es) k i =
    item_of-give_back_all (give_back s e.0 e.1.units (item_of s e.0.0 e.0.1)) es k i
    ∙ ap (λ o. lowered o (units_among es (k, i))) (item_of-give_back s e.0 e.1.units k i)
    ∙ lowered_twice (item_of s k i) (cond (eq_by_cmp place_cmp (k, i) e.0) e.1.units 0) (units_among es (k, i))

-- the parts of a state that giving back does not change
pub record Leaves (s s' : State) : Type 0 where
  pub customers : s'.customers ≡ s.customers
  pub capacity : s'.capacity ≡ s.capacity
  pub size : size s' ≡ size s

leaves_one : (s : State) (p : Place) (units : ℕ) (o : Option Item) → item_of s p.0 p.1 ≡ o →
    Leaves s (give_back s p units o)
leaves_one s p units None e = record { customers = refl; capacity = refl; size = refl }
leaves_one s p units (Some x) e = record {
  customers = customers-with_table s p.0 (insert (table_of s p.0) p.1 (given_back x units));
  capacity = capacity-with_table s p.0 (insert (table_of s p.0) p.1 (given_back x units));
  size = size_replaced s p.0 p.1 (given_back x units) x e;
}

pub leaves : (s : State) (es : List (Place × Booking)) → Leaves s (give_back_all s es)
leaves s [] = record { customers = refl; capacity = refl; size = refl }
leaves s (e ∷ es) =
    let one = leaves_one s e.0 e.1.units (item_of s e.0.0 e.0.1) refl in
    let rest = leaves (give_back s e.0 e.1.units (item_of s e.0.0 e.0.1)) es in
    record {
      customers = rest.customers ∙ one.customers;
      capacity = rest.capacity ∙ one.capacity;
      size = rest.size ∙ one.size;
    }

-- an item of the state after a customer left
pub item_of-departed : (s : State) (c : ℕ) (b : Bookings) (k : Kind) (i : ℕ)
    → item_of (give_back_all (without_customer s c) (entries b)) k i ≡ lowered (item_of s k i) (units_of b (k, i))
item_of-departed s c b k i =
    item_of-give_back_all (without_customer s c) (entries b) k i
    ∙ ap (λ o. lowered o (units_among (entries b) (k, i))) (item_of-without_customer s c k i)
    ∙ ap (lowered (item_of s k i)) (units_in-entries b (k, i))

-- an item that exists after some were lowered existed before
raised : (o : Option Item) (n : ℕ) (x : Item) → lowered o n ≡ Some x →
    (y : Item) × ((o ≡ Some y) × (x ≡ given_back y n))
raised None n x e = absurd (let never : None ≡ Some x = e in cc)
raised (Some y) n x e = (y, (refl, sym (some_same (given_back y n) x e)))

module _ (s : State) (c : ℕ) (b : Bookings) (balanced : IsBalanced s) (h : bookings_of s c ≡ Some b) where
  abbrev departed : State
  departed = give_back_all (without_customer s c) (entries b)

  left : Leaves (without_customer s c) departed
  left = leaves (without_customer s c) (entries b)

  found_before : (q : ℕ) (x : Bookings) → bookings_of departed q ≡ Some x → bookings_of s q ≡ Some x
  found_before q x e =
      let without : get (remove s.customers c) q ≡ Some x = sym (ap (λ cs. get cs q) left.customers) ∙ e in
      elim (either_key nat_cmp_total nat_cmp-IsAntisymmetric q c) [
        | inl same ↦
            let gone : None ≡ Some x = sym (get_removed nat_cmp_total nat_cmp-IsAntisymmetric s.customers c) ∙
            ap (get (remove s.customers c)) (sym same) ∙ without in
            absurd (let never : None ≡ Some x = gone in cc)
        | inr apart ↦ sym (removed_elsewhere nat_cmp_total nat_cmp-IsAntisymmetric s.customers c q apart) ∙ without
      ]

  item_left : (k : Kind) (i : ℕ) (x : Item) → item_of departed k i ≡ Some x → IsItem departed k i x
  item_left k i x e =
      let was = raised (item_of s k i) (units_of b (k, i)) x (sym (item_of-departed s c b k i) ∙ e) in
      let f = balanced.items k i was.0 was.1.0 in
      let few = units_of-used s c b k i was.0 balanced h was.1.0 in
      let held = held-without_customer s c b (k, i) h in
      let same : units_held departed (k, i) ≡ units_held (without_customer s c) (k, i) =
      ap (λ cs. sum_by (λ z. units_of z (k, i)) (map.values cs)) left.customers in
      subst (λ y. IsItem departed k i y) (sym was.1.1) (record {
        id_range = f.id_range;
        some_units = f.some_units;
        few_units = f.few_units;
        price_range = f.price_range;
        counts = omega (arith, f.counts, few);
        held = omega (arith, f.held, held, same, few);
      })

  item_still : (k : Kind) (i : ℕ) → IsSome (item_of s k i) → IsSome (item_of departed k i)
  item_still k i e = subst IsSome (sym (item_of-departed s c b k i)) (elim (item_of s k i) as (λ o. IsSome o →
      IsSome (lowered o (units_of b (k, i)))) [
        | None ↦ λ never. never
        | Some y ↦ λ _. ap is_some {x = Some (given_back y (units_of b (k, i)))} refl
      ] e)

  pub balanced-departed : IsBalanced (give_back_all (without_customer s c) (entries b))
  balanced-departed =
      let sizes = size-without_customer s c b h in
      record {
        room = rw left.capacity (omega (arith, left.size, sizes, balanced.room));
        items = item_left;
        customers = λ q x e. balanced.customers q x (found_before q x e);
        bookings = λ q x k i y e f.
            let r = balanced.bookings q x k i y (found_before q x e) f in
            record {
              item = item_still k i r.item;
              some_units = r.some_units;
              few_units = r.few_units;
              sum_range = r.sum_range;
            };
      }

-- after one booking was given back, the others can be
pub can_give_more : (s : State) (b : Place × Booking) (bs : List (Place × Booking)) → CanGiveBack s (b ∷ bs)
    → CanGiveBack (give_back s b.0 b.1.units (item_of s b.0.0 b.0.1)) bs
can_give_more s b bs can = record {
  in_range = λ k i x e.
      let was = raised (item_of s k i) (amount k i) x (sym (item_of-give_back s b.0 b.1.units k i) ∙ e) in
      let r = can.in_range k i was.0 was.1.0 in
      let few = can.used k i was.0 was.1.0 in
      subst IsItemInRange (sym was.1.1) (record {
        few_units = r.few_units;
        price_range = r.price_range;
        counts = omega (arith, r.counts, few);
      });
  used = λ k i x e.
      let was = raised (item_of s k i) (amount k i) x (sym (item_of-give_back s b.0 b.1.units k i) ∙ e) in
      let few = can.used k i was.0 was.1.0 in
      let same : x.used ≡ was.0.used - amount k i = ap (λ (y : Item). y.used) was.1.1 in
      omega (arith, few, same);
}
  where
    amount : Kind → ℕ → ℕ
    amount k i = cond (eq_by_cmp place_cmp (k, i) b.0) b.1.units 0

-- a customer's bookings can be given back once the customer is removed
pub can_depart : (s : State) (c : ℕ) (b : Bookings) → IsBalanced s → bookings_of s c ≡ Some b →
    CanGiveBack (without_customer s c) (entries b)
can_depart s c b balanced h = record {
  in_range = λ k i x e.
      let f = balanced.items k i x (sym (item_of-without_customer s c k i) ∙ e) in
      record { few_units = f.few_units; price_range = f.price_range; counts = f.counts };
  used = λ k i x e. rw (units_in-entries b (k, i)) (units_of-used s c b k i x balanced h
      (sym (item_of-without_customer s c k i) ∙ e));
}

-- removing a customer that does not exist changes nothing
pub without_missing : (s : State) (c : ℕ) → bookings_of s c ≡ None → without_customer s c ≡ s
without_missing s c none = ap (λ cs. record s { customers = cs })
    (remove_missing nat_cmp_total nat_cmp-IsAntisymmetric s.customers c none)
