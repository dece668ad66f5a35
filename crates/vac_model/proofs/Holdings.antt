-- The units that the customers of a balanced state hold of its items.
use Rattle.std.proofs.lemmas.Bool.Decides.{nat_tests}
use Rattle.std.proofs.Common.{◌≡◌, ℕ, ◌≤◌, arith}
use Rattle.std.specs.Prelude.{Some}
use Rattle.std.specs.Cmp.{nat_cmp_total}
use Rattle.std.specs.FinMap.{get, nat_cmp-IsAntisymmetric}
use Rattle.vac_model.specs.declared.items.Kind.{Kind}
use Rattle.vac_model.specs.declared.items.Item.{Item}
use Rattle.vac_model.specs.State.{State, Booking, Bookings, Place, item_of, bookings_of, units_of, units_held}
use Rattle.vac_model.specs.Balanced.{IsBalanced}
use Rattle.vac_model.proofs.Sums.{sum-remove}

-- a customer holds no more of an item than all customers do
pub units_of-held : (s : State) (customer : ℕ) (bookings : Bookings) (place : Place) →
    bookings_of s customer ≡ Some bookings
    → units_of bookings place ≤ units_held s place
units_of-held s customer bookings place h =
    omega (
      arith,
      sum-remove nat_cmp_total nat_cmp-IsAntisymmetric
          (λ b. units_of b place) s.customers customer bookings h,
    )

-- so a customer holds no more of an item than is used of it
pub units_of-used : (s : State) (customer : ℕ) (bookings : Bookings) (kind : Kind) (id : ℕ) (item : Item) → IsBalanced s
    → bookings_of s customer ≡ Some bookings → item_of s kind id ≡ Some item → units_of bookings (kind, id) ≤ item.used
units_of-used s customer bookings kind id item balanced h there =
    omega (arith, units_of-held s customer bookings (kind, id) h, (balanced.items kind id item there).held)

-- as `units_of-used`, for one booking
pub units-used : (s : State) (customer : ℕ) (bookings : Bookings) (kind : Kind) (id : ℕ) (item : Item) (b : Booking) →
    IsBalanced s
    → bookings_of s customer ≡ Some bookings → item_of s kind id ≡ Some item → get bookings (kind, id) ≡ Some b →
    b.units ≤ item.used
units-used s customer bookings kind id item b balanced h there e =
    grind (arith, nat_tests, units_of-used s customer bookings kind id item balanced h there)
