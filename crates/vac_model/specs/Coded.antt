-- A state as numbers and lists alone. A type whose contracts see it as a state needs this form.
use Rattle.std.specs.Prelude.{◌≡◌, ℕ, suc, zero, refl}
use Rattle.std.specs.Coded.{Coded, code_by, coded×, coded_ℕ}
use Rattle.std.specs.FinMap as map
use Rattle.vac_model.specs.declared.items.Kind.{Kind}
use Rattle.vac_model.specs.declared.items.Kind.TheVariants.{Car, Flight, Room}
use Rattle.vac_model.specs.declared.items.Item.{Item}
use Rattle.vac_model.specs.State.{State, Booking, Bookings, Customers, ItemTable, kind_number}

-- the kind that a number stands for; each number from 2 on stands for rooms
abbrev pub kind_of_number : ℕ → Kind
kind_of_number zero = Car
kind_of_number (suc zero) = Flight
kind_of_number (suc (suc n)) = Room

pub kind_back : (k : Kind) → kind_of_number (kind_number k) ≡ k
kind_back Car = refl
kind_back Flight = refl
kind_back Room = refl

-- the coding of a kind by its number
abbrev pub kind_coded : Coded Kind
kind_coded = code_by ℕ coded_ℕ kind_number kind_of_number kind_back

-- the coding of an item by its counts and its price
abbrev pub item_coded : Coded Item
item_coded =
    code_by ((ℕ × ℕ) × (ℕ × ℕ)) (coded× (coded× coded_ℕ coded_ℕ) (coded× coded_ℕ coded_ℕ))
    (λ i. ((i.used, i.free), (i.total, i.price)))
    (λ p. record { used = p.0.0; free = p.0.1; total = p.1.0; price = p.1.1 }) (λ _. refl)

-- the coding of a booking by its units and its sum
abbrev pub booking_coded : Coded Booking
booking_coded =
    code_by (ℕ × ℕ) (coded× coded_ℕ coded_ℕ) (λ b. (b.units, b.sum))
    (λ p. record { units = p.0; sum = p.1 }) (λ _. refl)

-- the coding of a table as a finite map from ids to items
abbrev pub table_coded : Coded ItemTable
table_coded = map.code coded_ℕ item_coded

-- the coding of a customer's bookings as a finite map from items to bookings
abbrev pub bookings_coded : Coded Bookings
bookings_coded = map.code (coded× kind_coded coded_ℕ) booking_coded

-- the coding of the customers as a finite map from ids to their bookings
abbrev pub customers_coded : Coded Customers
customers_coded = map.code coded_ℕ bookings_coded

-- the coding of a state as the tuple of its fields
abbrev pub state_coded : Coded State
state_coded =
    code_by ((ℕ × Customers) × (ItemTable × (ItemTable × ItemTable)))
    (coded× (coded× coded_ℕ customers_coded)
    (coded× table_coded (coded× table_coded table_coded)))
    (λ s. ((s.capacity, s.customers), (s.cars, (s.flights, s.rooms))))
    (λ p. record {
      capacity = p.0.0;
      cars = p.1.0;
      flights = p.1.1.0;
      rooms = p.1.1.1;
      customers = p.0.1;
    })
    (λ _. refl)
