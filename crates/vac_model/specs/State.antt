-- A state of the reservation system, after STAMP's Vacation: tables of cars, flights and rooms,
-- and customers with their bookings.
use Rattle.std.specs.Prelude.{ℕ, ◌+◌, Bool, Option, sum_by, nat_le}
use Rattle.std.specs.Option.{option_map_or}
use Rattle.std.specs.Ordering.{nat_cmp, ordering_then}
use Rattle.std.specs.FinMap.{FinMap, empty, get, insert, remove, len, values}
use Rattle.std.specs.declared.cmp.Ordering.{Ordering}
use Rattle.vac_model.specs.declared.items.Kind.{Kind}
use Rattle.vac_model.specs.declared.items.Kind.TheVariants.{Car, Flight, Room}
use Rattle.vac_model.specs.declared.items.Item.{Item}
pub use Rattle.vac_model.specs.declared.items.Booking.{Booking}
use Rattle.vac_model.specs.declared.replies.Report.{Report}

-- the number of a kind in the order of kinds
abbrev pub kind_number : Kind → ℕ
kind_number Car = 0
kind_number Flight = 1
kind_number Room = 2

-- the name of an item: its kind and its id
abbrev pub Place : Type 0
Place = Kind × ℕ

-- the order of bookings: by kind, then by id
abbrev pub place_cmp : Place → Place → Ordering
place_cmp p q = ordering_then (nat_cmp (kind_number p.0) (kind_number q.0)) (nat_cmp p.1 q.1)

-- a table of the items of one kind, by their ids
abbrev pub ItemTable : Type 0
ItemTable = FinMap nat_cmp Item

-- the bookings of one customer, by the booked item
abbrev pub Bookings : Type 0
Bookings = FinMap place_cmp Booking

-- the table of customers, by their ids
abbrev pub Customers : Type 0
Customers = FinMap nat_cmp Bookings

-- a state: the four tables, and the largest number of entries
pub record State : Type 0 where
  pub capacity : ℕ
  pub cars : ItemTable
  pub flights : ItemTable
  pub rooms : ItemTable
  pub customers : Customers

-- the state without entries
abbrev pub empty_state : ℕ → State
empty_state n = record {
  capacity = n;
  cars = empty;
  flights = empty;
  rooms = empty;
  customers = empty;
}

-- the table of a kind
abbrev pub table_of : State → Kind → ItemTable
table_of s Car = s.cars
table_of s Flight = s.flights
table_of s Room = s.rooms

-- the state with its table of a kind replaced
abbrev pub with_table : State → Kind → ItemTable → State
with_table s Car t = record s { cars = t }
with_table s Flight t = record s { flights = t }
with_table s Room t = record s { rooms = t }

-- the item of a kind and an id, if it exists
abbrev pub item_of : State → Kind → ℕ → Option Item
item_of s kind id = get (table_of s kind) id

-- the state with the item of a kind and an id set to this item
abbrev pub with_item : State → Kind → ℕ → Item → State
with_item s kind id item = with_table s kind (insert (table_of s kind) id item)

-- the state without the item
abbrev pub without_item : State → Kind → ℕ → State
without_item s kind id = with_table s kind (remove (table_of s kind) id)

-- the bookings of the customer with this id, if the customer exists
abbrev pub bookings_of : State → ℕ → Option Bookings
bookings_of s customer = get s.customers customer

-- the state with the customer's bookings set to these
abbrev pub with_bookings : State → ℕ → Bookings → State
with_bookings s customer bookings = record s { customers = insert s.customers customer bookings }

-- the state without the customer
abbrev pub without_customer : State → ℕ → State
without_customer s customer = record s { customers = remove s.customers customer }

-- the number of entries of a state: its items, its customers and their bookings
abbrev pub size : State → ℕ
size s =
    len s.cars + len s.flights + len s.rooms + len s.customers + sum_by len (values s.customers)

-- true if there is no room for a further entry
abbrev pub is_full : State → Bool
is_full s = nat_le s.capacity (size s)

-- the sum of the prices at which a customer's units were booked
abbrev pub bill_of : Bookings → ℕ
bill_of bookings = sum_by (λ b. b.sum) (values bookings)

-- the number of units of all items that a customer has booked
abbrev pub units_booked : Bookings → ℕ
units_booked bookings = sum_by (λ b. b.units) (values bookings)

-- the number of units of one item that a customer has booked
abbrev pub units_of : Bookings → Place → ℕ
units_of bookings place = option_map_or (λ b. b.units) (get bookings place) 0

-- the number of units of one item that all customers have booked
abbrev pub units_held : State → Place → ℕ
units_held s place = sum_by (λ bookings. units_of bookings place) (values s.customers)

-- a number of each item, summed over the three tables
abbrev pub sum_of_items : (Item → ℕ) → State → ℕ
sum_of_items f s =
    sum_by f (values s.cars) + sum_by f (values s.flights) + sum_by f (values s.rooms)

-- the report of a state: the entries of each table, the units booked, the sums over all items, and
-- the sum of all bills
abbrev pub report : State → Report
report s = record {
  cars = len s.cars;
  flights = len s.flights;
  rooms = len s.rooms;
  customers = len s.customers;
  bookings = sum_by units_booked (values s.customers);
  used = sum_of_items (λ i. i.used) s;
  free = sum_of_items (λ i. i.free) s;
  total = sum_of_items (λ i. i.total) s;
  billed = sum_by bill_of (values s.customers);
}
