-- The sums of a small state are far below 2 ^ 64.
use Rattle.std.proofs.lemmas.Bool.Decides.{nat_tests}
use Rattle.std.proofs.Common.{◌≡◌, ℕ, ◌+◌, ◌*◌, ◌^◌, ◌≤◌, ◌<◌, arith}
use Rattle.std.specs.Prelude.{Some, sum_by}
use Rattle.std.specs.Cmp.{nat_cmp_total}
use Rattle.std.specs.FinMap.{len, values, nat_cmp-IsAntisymmetric}
use Rattle.vac_model.specs.declared.items.Kind.{Kind}
use Rattle.vac_model.specs.declared.items.Kind.TheVariants.{Car, Flight, Room}
use Rattle.vac_model.specs.declared.items.Item.{Item}
use Rattle.vac_model.specs.State.{State, Booking, Bookings, table_of, bookings_of, units_booked, bill_of, size}
use Rattle.vac_model.specs.Fits.{IsSmall}
use Rattle.vac_model.proofs.Sums.{sum_le, sum_le_by, sum-remove}
use Rattle.vac_model.proofs.Places.{place_cmp_total, place_cmp-IsAntisymmetric}

-- a state whose sums stay far below 2 ^ 64
pub record HasSmallSums (s : State) : Type 0 where
  pub used : (kind : Kind) → sum_by (λ i. i.used) (values (table_of s kind)) < 2 ^ 60
  pub free : (kind : Kind) → sum_by (λ i. i.free) (values (table_of s kind)) < 2 ^ 60
  pub total : (kind : Kind) → sum_by (λ i. i.total) (values (table_of s kind)) < 2 ^ 60
  pub units : sum_by units_booked (values s.customers) < 2 ^ 60
  pub bills : sum_by bill_of (values s.customers) < 2 ^ 60

-- a table has no more entries than the state
table_size : (s : State) (kind : Kind) → len (table_of s kind) ≤ size s
table_size s Car = omega arith
table_size s Flight = omega arith
table_size s Room = omega arith

-- a number of each item that is at most a total
items_fit : (s : State) (small : IsSmall s) (f : Item → ℕ) → ((i : Item) → i.used + i.free ≡ i.total → f i ≤ i.total) →
    (kind : Kind)
    → sum_by f (values (table_of s kind)) < 2 ^ 60
items_fit s small f below kind = grind (
  arith,
  nat_tests,
  small.balanced.items kind,
  sum_le nat_cmp_total nat_cmp-IsAntisymmetric f 1000000000 (table_of s kind),
  table_size s kind,
)

-- a customer's units and bill are bounded by the number of bookings
units_fit : (s : State) (small : IsSmall s) (c : ℕ) (b : Bookings) → bookings_of s c ≡ Some b →
    units_booked b ≤ len b * 10000
units_fit s small c b h =
    sum_le place_cmp_total place_cmp-IsAntisymmetric (λ (x : Booking). x.units) 10000 b
    (λ p x e. (small.balanced.bookings c b p.0 p.1 x h e).few_units)

bill_fits : (s : State) (small : IsSmall s) (c : ℕ) (b : Bookings) → bookings_of s c ≡ Some b →
    bill_of b ≤ len b * 10000000000
bill_fits s small c b h =
    sum_le place_cmp_total place_cmp-IsAntisymmetric (λ (x : Booking). x.sum) 10000000000 b
    (λ p x e. let r = small.balanced.bookings c b p.0 p.1 x h e in omega (arith, r.few_units, r.sum_range))

-- one bill fits
pub bill_small : (s : State) (c : ℕ) (b : Bookings) → IsSmall s → bookings_of s c ≡ Some b → bill_of b < 2 ^ 64
bill_small s c b small h = grind (
  arith,
  nat_tests,
  sum-remove nat_cmp_total nat_cmp-IsAntisymmetric len s.customers c b
      h,
  bill_fits s small c b h,
)

pub small_sums : (s : State) → IsSmall s → HasSmallSums s
small_sums s small = grind (
  arith,
  nat_tests,
  items_fit s small,
  sum_le_by nat_cmp_total nat_cmp-IsAntisymmetric units_booked len 10000 s.customers (units_fit s small),
  units_fit s small,
  sum_le_by nat_cmp_total nat_cmp-IsAntisymmetric bill_of len 10000000000 s.customers
      (bill_fits s small),
  bill_fits s small,
)
