-- The effect of each change of a state on its parts.
use Rattle.std.proofs.Common.{◌≡◌, ◌⊎◌, inl, inr, ℕ, ◌+◌, refl, arith}
use Rattle.std.specs.FinMap.{len}
use Rattle.vac_model.specs.declared.items.Kind.{Kind}
use Rattle.vac_model.specs.declared.items.Kind.TheVariants.{Car, Flight, Room}
use Rattle.vac_model.specs.State.{State, Bookings, ItemTable, table_of, with_table, item_of, with_bookings}
use Rattle.vac_model.specs.State.{without_customer, size}

-- bookings and customers leave the items
pub item_of-with_bookings : (s : State) (c : ℕ) (b : Bookings) (kind : Kind) (id : ℕ) →
    item_of (with_bookings s c b) kind id ≡ item_of s kind id
item_of-with_bookings s c b Car id = refl
item_of-with_bookings s c b Flight id = refl
item_of-with_bookings s c b Room id = refl

pub item_of-without_customer : (s : State) (c : ℕ) (kind : Kind) (id : ℕ) →
    item_of (without_customer s c) kind id ≡ item_of s kind id
item_of-without_customer s c Car id = refl
item_of-without_customer s c Flight id = refl
item_of-without_customer s c Room id = refl

-- items leave the customers and the capacity
pub customers-with_table : (s : State) (kind : Kind) (t : ItemTable) → (with_table s kind t).customers ≡ s.customers
customers-with_table s Car t = refl
customers-with_table s Flight t = refl
customers-with_table s Room t = refl

pub capacity-with_table : (s : State) (kind : Kind) (t : ItemTable) → (with_table s kind t).capacity ≡ s.capacity
capacity-with_table s Car t = refl
capacity-with_table s Flight t = refl
capacity-with_table s Room t = refl

-- the table of a kind after a change
pub table_of-with_table : (s : State) (kind : Kind) (t : ItemTable) → table_of (with_table s kind t) kind ≡ t
table_of-with_table s Car t = refl
table_of-with_table s Flight t = refl
table_of-with_table s Room t = refl

-- the size after a table changed
pub size-with_table : (s : State) (kind : Kind) (t : ItemTable) →
    size (with_table s kind t) + len (table_of s kind) ≡ size s + len t
size-with_table s Car t = omega arith
size-with_table s Flight t = omega arith
size-with_table s Room t = omega arith

-- the table of a kind after the table of another changed
pub other_table : (s : State) (kind : Kind) (t : ItemTable) (k : Kind) →
    ((k ≡ kind) × (table_of (with_table s kind t) k ≡ t)) ⊎ (table_of (with_table s kind t) k ≡ table_of s k)
other_table s Car t Car = inl (refl, refl)
other_table s Car t Flight = inr refl
other_table s Car t Room = inr refl
other_table s Flight t Car = inr refl
other_table s Flight t Flight = inl (refl, refl)
other_table s Flight t Room = inr refl
other_table s Room t Car = inr refl
other_table s Room t Flight = inr refl
other_table s Room t Room = inl (refl, refl)
