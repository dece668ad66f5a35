-- The conditions and effects of commands on bookings after their customer and their item have been
-- found.
use Rattle.std.specs.Prelude.{◌≡◌, ◌≢◌, ℕ, ◌+◌, ◌<◌, ◌≤◌, ◌^◌, List, [], length, Option, Some, None, true}
use Rattle.tx_memory.specs.View.{View, Sees, RestsOn, Kept}
use Rattle.vac_model.specs.declared.commands.Command.{Command}
use Rattle.vac_model.specs.declared.commands.Command.TheVariants.{Reserve, Cancel}
use Rattle.vac_model.specs.declared.commands.Refusal.{Refusal}
use Rattle.vac_model.specs.declared.items.Kind.{Kind}
use Rattle.vac_model.specs.declared.replies.Reply.{Reply}
use Rattle.vac_model.specs.declared.replies.Reply.TheVariants as reply
use Rattle.vac_model.specs.State.{State, Place}
use Rattle.vac_model.specs.Step.{step}
use Rattle.vac_model.specs.Ranges.{is_command}
use Rattle.tx_alloc.specs.Pointer.{IsWithin}
use Rattle.tx_alloc.specs.Rows.{block_at}
use Rattle.vac_bookings.specs.Search.{SpotAt}
use Rattle.vac_bookings.specs.declared.search.Spot.{Spot}
use Rattle.tx_tree.specs.Table.{IsInside}
use Rattle.vac_records.specs.Items.{mem}
use Rattle.vac_records.specs.Bookings.{place_key}
use Rattle.vac_records.specs.Customers.{head_of}
use Rattle.vac_records.specs.Represents.{IsState}
use Rattle.vac_records.specs.InMemory.{HoldsState}
use Rattle.vac_records.specs.Laws.{Stays}
use Rattle.vac_tasks.specs.declared.bookings.CustomerAt.{CustomerAt}
use Rattle.vac_tasks.specs.declared.bookings.ItemAt.{ItemAt}
use Rattle.vac_tasks.specs.declared.bookings.Offer.{Offer}
use Rattle.vac_tasks.specs.Ran.{Untouched, Idle}
use Rattle.vac_tasks.specs.Entries.{item_block, customer_block, ItemIsAt, CustomerIsAt}

-- the block of the place's booking in the list of the customer in block `owner`, or 0
abbrev pub booking_block : {m : ℕ → ℕ} {n : ℕ} {s : State} → IsState m n s → ℕ → Place → ℕ
booking_block h owner place = block_at (h.represents.parts.lists owner) (place_key place)

-- the customer and the item are in these blocks
pub record Here {m : ℕ → ℕ} {n : ℕ} {s : State} (h : IsState m n s) (customer owner : ℕ)
    (kind : Kind) (id item : ℕ) : Type 0 where
  pub owner_is : customer_block h customer ≡ owner
  pub owner_some : owner ≢ 0
  pub item_is : item_block h kind id ≡ item
  pub item_some : item ≢ 0
  pub small : id < 2 ^ 32

-- the customer and the item are in these blocks, as a condition on a state
abbrev pub AtBlocks : ℕ → ℕ → Kind → ℕ → ℕ → (m : ℕ → ℕ) (n : ℕ) (s : State) →
    IsState m n s → Type 0
AtBlocks customer owner kind id item m n s h = Here h customer owner kind id item

-- the customer, the item and the customer's booking of the item are in these blocks
pub record AtBooking (customer owner : ℕ) (kind : Kind) (id item b : ℕ) (m : ℕ → ℕ) (n : ℕ)
    (s : State) (h : IsState m n s) : Type 0 where
  pub here : Here h customer owner kind id item
  pub is : booking_block h owner (kind, id) ≡ b

-- the customer and the item are in these blocks, and this is the spot of the item's booking in the
-- customer's list
pub record AtSpot (customer owner : ℕ) (kind : Kind) (id item : ℕ) (spot : Spot) (m : ℕ → ℕ)
    (n : ℕ) (s : State) (h : IsState m n s) : Type 0 where
  pub here : Here h customer owner kind id item
  pub at : SpotAt m (head_of owner) (place_key (kind, id)) spot (h.represents.parts.lists owner)

-- under each possible image of the memory's size, b is the block of the place's booking in the
-- list of the customer in block `owner`
pub record HasBookingAt (s : View) (owner : ℕ) (place : Place) (b : ℕ) : Type 0 where
  pub inside : IsInside s.size b
  pub at : (image : List ℕ) (state : State) → RestsOn s image →
      (h : IsState (mem s image) (length image) state) → booking_block h owner place ≡ b

-- under each possible image of the memory's size, this is the spot of the place's booking in the
-- list of the customer in block `owner`
pub record HasSpot (s : View) (owner : ℕ) (place : Place) (spot : Spot) : Type 0 where
  pub room : spot.link.0 < s.size
  pub within : IsWithin s spot.entry
  pub at : (image : List ℕ) (state : State) → RestsOn s image →
      (h : IsState (mem s image) (length image) state) →
      SpotAt (mem s image) (head_of owner) (place_key place) spot (h.represents.parts.lists owner)

-- under each possible image of the memory's size, the item in block `item` has this price
pub record HasPriceAt (s : View) (item price : ℕ) : Type 0 where
  pub at : (image : List ℕ) → RestsOn s image → mem s image (item + 7) ≡ price

-- the property P holds, and the item in block `item` has this price
pub record AtPrice (item price : ℕ)
    (P : (m : ℕ → ℕ) (n : ℕ) (state : State) → IsState m n state → Type 0)
    (m : ℕ → ℕ) (n : ℕ) (s : State) (h : IsState m n s) : Type 0 where
  pub there : P m n s h
  pub price_is : m (item + 7) ≡ price

-- under each possible image the item has this number of free units, at least num, and, if the
-- image has the memory's size, this price
pub record IsOffered (s : View) (item num : ℕ) (offer : Offer) : Type 0 where
  pub enough : num ≤ offer.free
  pub free_is : (image : List ℕ) → Sees s image → mem s image (item + 5) ≡ offer.free
  pub price : HasPriceAt s item offer.price

-- the command that books units of the item for the customer
abbrev pub reserve_of : CustomerAt → ItemAt → ℕ → Command
reserve_of who what num = Reserve who.customer what.kind what.id num

-- the command that cancels the customer's booking of the item
abbrev pub cancel_of : CustomerAt → ItemAt → Command
cancel_of who what = Cancel who.customer what.kind what.id

-- the memory holds a state, the customer and the item are in their blocks, and the command is
-- valid
pub record CanServe (s : View) (who : CustomerAt) (what : ItemAt) (c : Command) : Type 0 where
  pub state : HoldsState s
  pub customer : CustomerIsAt s who.customer who.owner
  pub item : ItemIsAt s what.kind what.id what.item
  pub range : is_command c ≡ true

-- the units can be booked, except for the limits of a booking and of the heap
pub record CanReserve (s : View) (who : CustomerAt) (what : ItemAt) (offer : Offer) : Type 0 where
  pub serve : CanServe s who what (reserve_of who what offer.num)
  pub offered : IsOffered s what.item offer.num offer

-- the units can be booked, except for the limits of a booking and of the heap, and the customer's
-- booking of the item is in block b
pub record CanReserveMore (s : View) (who : CustomerAt) (what : ItemAt) (offer : Offer)
    (b : ℕ) : Type 0 where
  pub ready : CanReserve s who what offer
  pub booking : HasBookingAt s who.owner (what.kind, what.id) b

-- the reply of a command on a booking, from the reason of its refusal, if it was refused
abbrev pub served_reply : Option Refusal → Reply
served_reply None = reply.Done
served_reply (Some why) = reply.No why

-- the memory represents the state after the command, with the same tables, and the reply is that
-- of the command
pub record Lands {m : ℕ → ℕ} {n : ℕ} {s : State} (h : IsState m n s) (m' : ℕ → ℕ) (c : Command)
    (r : Reply) : Type 0 where
  pub state : State
  pub is : step s c ≡ (state, r)
  pub stays : Stays h.represents m' [] state

-- under each possible image on which the memory represents a state with the property P, the
-- command ran, and items and customers are in the same tables as before
pub record ServesCommand (s s' : View) (c : Command) (r : Reply)
    (P : (m : ℕ → ℕ) (n : ℕ) (state : State) → IsState m n state → Type 0) : Type 0 where
  pub kept : Kept s s'
  pub untouched : Untouched s s' r
  pub idle : Idle s s' c
  pub lands : (image : List ℕ) (state : State) → Sees s' image →
      (h : IsState (mem s image) (length image) state) → P (mem s image) (length image) state h →
      Lands h (mem s' image) c r
