-- The outcome of each command: the next state and the reply. The commands and their refusals are
-- those of STAMP's Vacation, except the refusals TotalLimit, Full, UnitLimit and NoCustomer of
-- DropCustomer, the limits, and the report, which are this product's own.
use Rattle.std.specs.Prelude.{ℕ, ◌+◌, ◌-◌, ◌*◌, Option, Some, None, List, unwrap_or, fold, nat_lt, ◌==◌, if◌then◌else◌}
use Rattle.std.specs.Option.{option_map}
use Rattle.std.specs.FinMap.{empty, get, insert, remove, entries}
use Rattle.vac_model.specs.declared.limits.TheConstants.{MOST_TOTAL, MOST_UNITS}
use Rattle.vac_model.specs.declared.items.Kind.{Kind}
use Rattle.vac_model.specs.declared.items.Kind.TheVariants.{Flight}
use Rattle.vac_model.specs.declared.items.Item.{Item}
use Rattle.vac_model.specs.declared.commands.Command.{Command}
use Rattle.vac_model.specs.declared.commands.Command.TheVariants as command
use Rattle.vac_model.specs.declared.commands.Refusal.{Refusal}
use Rattle.vac_model.specs.declared.commands.Refusal.TheVariants.{NeedsCountAndPrice, TotalLimit, Full, NoItem, NotFree, InUse, Exists, NoCustomer, SoldOut, NotBooked, UnitLimit}
use Rattle.vac_model.specs.declared.replies.Reply.{Reply}
use Rattle.vac_model.specs.declared.replies.Reply.TheVariants as reply
use Rattle.vac_model.specs.State.{State, Booking, Bookings, Place, item_of, with_item, without_item, bookings_of, with_bookings, without_customer, is_full, bill_of, report}

-- the largest total of an item
abbrev pub total_limit : ℕ
total_limit = MOST_TOTAL

-- the largest number of units of one booking
abbrev pub unit_limit : ℕ
unit_limit = MOST_UNITS

-- the outcome of a command: the state after it, and the reply
abbrev pub Outcome : Type 0
Outcome = State × Reply

-- the outcome of a refused command, which changes nothing
abbrev pub refused : State → Refusal → Outcome
refused s why = (s, reply.No why)

-- the outcome of a command that took effect
abbrev pub done : State → Outcome
done s = (s, reply.Done)

-- the outcome of a question for a number
abbrev pub number_answered : State → Option ℕ → Outcome
number_answered s n = (s, reply.Number n)

-- continues with an entry if it exists, and else has the other outcome
abbrev pub when_found : {X : Type 0} → Option X → Outcome → (X → Outcome) → Outcome
when_found None missing found = missing
when_found (Some x) missing found = found x

-- an item with all its units free
abbrev pub new_item : ℕ → ℕ → Item
new_item num price = record { used = 0; free = num; total = num; price = price }

-- the item with more units, and with another price if one is given
abbrev pub added : Item → ℕ → Option ℕ → Item
added item num price = record {
  used = item.used;
  free = item.free + num;
  total = item.total + num;
  price = unwrap_or price item.price;
}

-- the item with fewer free units
abbrev pub deleted : Item → ℕ → Item
deleted item num = record {
  used = item.used;
  free = item.free - num;
  total = item.total - num;
  price = item.price;
}

-- the item with num more units booked
abbrev pub taken : Item → ℕ → Item
taken item num = record {
  used = item.used + num;
  free = item.free - num;
  total = item.total;
  price = item.price;
}

-- the item with num fewer units booked
abbrev pub given_back : Item → ℕ → Item
given_back item num = record {
  used = item.used - num;
  free = item.free + num;
  total = item.total;
  price = item.price;
}

-- a booking of num units at a price
abbrev pub new_booking : ℕ → ℕ → Booking
new_booking num price = record { units = num; sum = num * price }

-- the booking with more units at the present price; the older units keep their prices
abbrev pub extended : Booking → ℕ → ℕ → Booking
extended b num price = record { units = b.units + num; sum = b.sum + num * price }

-- Add of a missing item creates it, and needs a count and a price. The total is not tested: a
-- valid count is below the limit of the total
abbrev pub add_new : State → Kind → ℕ → ℕ → Option ℕ → Outcome
add_new s kind id num None = refused s NeedsCountAndPrice
add_new s kind id num (Some price) =
    if num == 0 then refused s NeedsCountAndPrice
    else if is_full s then refused s Full
    else done (with_item s kind id (new_item num price))

-- Add to an existing item adds units to it, and replaces its price if one is given
abbrev pub add_more : State → Kind → ℕ → ℕ → Option ℕ → Item → Outcome
add_more s kind id num price item =
    if nat_lt total_limit (item.total + num) then refused s TotalLimit
    else done (with_item s kind id (added item num price))

-- Add creates the item, or changes the existing one
abbrev pub add : State → Kind → ℕ → ℕ → Option ℕ → Outcome
add s kind id num price =
    when_found (item_of s kind id) (add_new s kind id num price) (add_more s kind id num price)

-- Delete removes free units; an item without units is removed
abbrev pub delete : State → Kind → ℕ → ℕ → Outcome
delete s kind id num =
    when_found (item_of s kind id) (refused s NoItem) (λ item.
    if nat_lt item.free num then refused s NotFree
    else if item.total - num == 0 then done (without_item s kind id)
    else done (with_item s kind id (deleted item num)))

-- DropFlight removes a flight of which nothing is booked
abbrev pub drop_flight : State → ℕ → Outcome
drop_flight s id =
    when_found (item_of s Flight id) (refused s NoItem) (λ item.
    if nat_lt 0 item.used then refused s InUse
    else done (without_item s Flight id))

-- NewCustomer creates a customer without bookings
abbrev pub new_customer : State → ℕ → Outcome
new_customer s id =
    when_found (bookings_of s id)
    (if is_full s then refused s Full else done (with_bookings s id empty))
    (λ _. refused s Exists)

-- the state after units of an item were given back
abbrev pub give_back : State → Place → ℕ → Option Item → State
give_back s place units None = s
give_back s place units (Some item) = with_item s place.0 place.1 (given_back item units)

-- the state after all units of these bookings were given back
abbrev pub give_back_all : State → List (Place × Booking) → State
give_back_all s bookings =
    fold (λ s b. give_back s b.0 b.1.units (item_of s b.0.0 b.0.1)) s bookings

-- DropCustomer removes the customer and gives all bookings back
abbrev pub drop_customer : State → ℕ → Outcome
drop_customer s id =
    when_found (bookings_of s id) (refused s NoCustomer) (λ bookings.
    done (give_back_all (without_customer s id) (entries bookings)))

-- Reserve without a booking of the item creates a booking, which needs an entry
abbrev pub book_new : State → ℕ → Kind → ℕ → ℕ → Bookings → Item → Outcome
book_new s customer kind id num bookings item =
    if is_full s then refused s Full
    else done (with_item
    (with_bookings s customer (insert bookings (kind, id) (new_booking num item.price)))
    kind id (taken item num))

-- Reserve with a booking of the item adds units to the booking, which needs no entry
abbrev pub book_more : State → ℕ → Kind → ℕ → ℕ → Bookings → Item → Booking → Outcome
book_more s customer kind id num bookings item b =
    if nat_lt unit_limit (b.units + num) then refused s UnitLimit
    else done (with_item
    (with_bookings s customer (insert bookings (kind, id) (extended b num item.price)))
    kind id (taken item num))

-- Reserve books units of an item for a customer, at the item's present price
abbrev pub reserve : State → ℕ → Kind → ℕ → ℕ → Outcome
reserve s customer kind id num =
    when_found (bookings_of s customer) (refused s NoCustomer) (λ bookings.
    when_found (item_of s kind id) (refused s NoItem) (λ item.
    if nat_lt item.free num then refused s SoldOut
    else when_found (get bookings (kind, id))
    (book_new s customer kind id num bookings item)
    (book_more s customer kind id num bookings item)))

-- Cancel gives all units of a booking back and removes the booking
abbrev pub cancel : State → ℕ → Kind → ℕ → Outcome
cancel s customer kind id =
    when_found (bookings_of s customer) (refused s NoCustomer) (λ bookings.
    when_found (item_of s kind id) (refused s NoItem) (λ item.
    when_found (get bookings (kind, id)) (refused s NotBooked) (λ b.
    done (with_item (with_bookings s customer (remove bookings (kind, id)))
    kind id (given_back item b.units)))))

-- the price of an item, if the item exists
abbrev pub price_of : State → Kind → ℕ → Option ℕ
price_of s kind id = option_map (λ item. item.price) (item_of s kind id)

-- the outcome of a command
abbrev pub step : State → Command → Outcome
step s (command.Add kind id num price) = add s kind id num price
step s (command.Delete kind id num) = delete s kind id num
step s (command.DropFlight id) = drop_flight s id
step s (command.NewCustomer id) = new_customer s id
step s (command.DropCustomer id) = drop_customer s id
step s (command.Free kind id) =
    number_answered s (option_map (λ item. item.free) (item_of s kind id))
step s (command.Price kind id) = number_answered s (price_of s kind id)
step s (command.Bill id) = number_answered s (option_map bill_of (bookings_of s id))
step s (command.Reserve customer kind id num) = reserve s customer kind id num
step s (command.Cancel customer kind id) = cancel s customer kind id
step s command.Audit = (s, reply.Report (report s))
