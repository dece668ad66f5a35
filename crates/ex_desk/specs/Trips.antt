-- The tasks of the desks.
use Rattle.std.specs.Prelude.{ℕ, ◌+◌, ◌*◌, ◌%◌, Some, [], ◌∷◌}
use Rattle.vac_model.specs.declared.items.Kind.{Kind}
use Rattle.vac_model.specs.declared.items.Kind.TheVariants.{Car, Flight, Room}
use Rattle.vac_model.specs.declared.commands.Command.{Command}
use Rattle.vac_model.specs.declared.commands.Command.TheVariants.{Add}
use Rattle.vac_model.specs.declared.tasks.Task.{Task}
use Rattle.vac_model.specs.declared.tasks.Task.TheVariants.{Trip, Update}
use Rattle.ex_desk.specs.declared.trips.TheConstants.{DESKS, ITEMS, PRICE}

-- the item of each kind that a desk books in its trip of this number
abbrev pub item_asked_for : ℕ → ℕ → ℕ
item_asked_for desk number = 1 + (desk + number) % ITEMS

-- the customer of a desk's trip of this number; no other trip has this customer
abbrev pub customer_of : ℕ → ℕ → ℕ
customer_of desk number = 1 + desk + DESKS * number

-- the trip of this number of a desk: a car, a flight and a room for its customer
abbrev pub trip_of : ℕ → ℕ → Task
trip_of desk number = Trip (customer_of desk number)
    ((Car, item_asked_for desk number) ∷ (Flight, item_asked_for desk number)
    ∷ (Room, item_asked_for desk number) ∷ [])

-- the command that adds this number of units of an item, at the common price of all items
abbrev pub stocked : ℕ → Kind → ℕ → Command
stocked units kind id = Add kind id units (Some PRICE)

-- the stock: two items of each kind, with this number of units each
abbrev pub stock_of : ℕ → Task
stock_of units = Update (stocked units Car 1 ∷ stocked units Car 2
    ∷ stocked units Flight 1 ∷ stocked units Flight 2
    ∷ stocked units Room 1 ∷ stocked units Room 2 ∷ [])
