-- The conditions and effects of the steps of commands on customers.
use Rattle.std.specs.Prelude.{◌≡◌, ◌≢◌, ℕ, ◌-◌, ◌≤◌, List, ◌∷◌, length, Some, true}
use Rattle.std.specs.FinMap.{empty, entries, len}
use Rattle.tx_memory.specs.View.{View, Sees, RestsOn, Kept}
use Rattle.vac_model.specs.declared.commands.Command.{Command}
use Rattle.vac_model.specs.declared.commands.Command.TheVariants.{DropCustomer}
use Rattle.vac_model.specs.declared.items.Booking.{Booking}
use Rattle.vac_model.specs.declared.items.Kind.{Kind}
use Rattle.vac_model.specs.declared.replies.Reply.{Reply}
use Rattle.vac_model.specs.State.{State, Bookings, Place, bookings_of}
use Rattle.vac_model.specs.Step.{step, drop_customer}
use Rattle.vac_model.specs.Ranges.{is_command}
use Rattle.vac_bookings.specs.Lists.{SomeBooking}
use Rattle.tx_tree.specs.Table.{IsInside}
use Rattle.vac_records.specs.Items.{mem}
use Rattle.vac_records.specs.Bookings.{place_in, booking_in}
use Rattle.vac_records.specs.Customers.{head_of}
use Rattle.vac_records.specs.Represents.{IsState}
use Rattle.vac_records.specs.InMemory.{HoldsState}
use Rattle.vac_tasks.specs.declared.bookings.CustomerAt.{CustomerAt}
use Rattle.vac_tasks.specs.Entries.{item_block, customer_block, CustomerIsAt}
use Rattle.vac_tasks.specs.Ran.{Untouched, Idle, IsOutcome}

-- the command ran under each possible image on which c is the customer's block, or the customer is
-- missing if c is 0
-- Not said: that other entries which stay keep their blocks.
pub record RanOn (s s' : View) (id c : ℕ) (command : Command) (r : Reply) : Type 0 where
  pub kept : Kept s s'
  pub untouched : Untouched s s' r
  pub idle : Idle s s' command
  pub outcome : (image : List ℕ) (state : State) → Sees s' image →
      (h : IsState (mem s image) (length image) state) → customer_block h id ≡ c →
      IsOutcome (mem s' image) (length image) (step state command) r

-- under each possible image on which c was the customer's block, or the customer was missing if c
-- is 0, the items are in the same blocks as before
pub record ItemsStayOn (s s' : View) (id c : ℕ) : Type 0 where
  pub stay : (image : List ℕ) (state state' : State) → Sees s' image →
      (h : IsState (mem s image) (length image) state) → customer_block h id ≡ c →
      (h' : IsState (mem s' image) (length image) state') →
      (kind : Kind) (item : ℕ) → item_block h' kind item ≡ item_block h kind item

-- under each possible image on which the customer was missing, c is now the customer's block
pub record HasSeat (s s' : View) (id c : ℕ) : Type 0 where
  pub some : c ≢ 0
  pub inside : IsInside s'.size c
  pub at : (image : List ℕ) (state state' : State) → Sees s' image →
      (h : IsState (mem s image) (length image) state) → customer_block h id ≡ 0 →
      (h' : IsState (mem s' image) (length image) state') → customer_block h' id ≡ c

-- under each possible image of the memory's size, the customer exists and has no bookings
pub record HasNoBookings (s : View) (id : ℕ) : Type 0 where
  pub none : (image : List ℕ) (state : State) → RestsOn s image →
      IsState (mem s image) (length image) state → bookings_of state id ≡ Some empty

-- the customer has bookings, and the first booking is in block b
pub record HasFirst (m : ℕ → ℕ) (n : ℕ) (s : State) (id b : ℕ) : Type 0 where
  pub bookings : Bookings
  pub there : bookings_of s id ≡ Some bookings
  pub rest : List (Place × Booking)
  pub entries_are : entries bookings ≡ (place_in m b, booking_in m b) ∷ rest
  pub listed : SomeBooking m n b

-- under each possible image of the memory's size, the first booking of the customer in block c is
-- in block b, and the head word of c leads to b
pub record StartsAt (s : View) (id c b : ℕ) : Type 0 where
  pub inside : IsInside s.size b
  pub leads : (image : List ℕ) → RestsOn s image → mem s image (head_of c) ≡ b
  pub under : (image : List ℕ) (state : State) → RestsOn s image →
      IsState (mem s image) (length image) state →
      HasFirst (mem s image) (length image) state id b

-- the memory holds a state with the customer in this block, and the command that drops the
-- customer is valid
pub record CanDrop (s : View) (who : CustomerAt) : Type 0 where
  pub state : HoldsState s
  pub customer : CustomerIsAt s who.customer who.owner
  pub range : is_command (DropCustomer who.customer) ≡ true

-- the memory holds a state with the customer in block c, whose first booking is in block b, and
-- the command that drops the customer is valid
pub record CanCancelFirst (s : View) (id c b : ℕ) : Type 0 where
  pub state : HoldsState s
  pub customer : CustomerIsAt s id c
  pub first : StartsAt s id c b
  pub range : is_command (DropCustomer id) ≡ true

-- only reads were made, and under each possible image the booking in block b is of this item
pub record PlaceRead (s s' : View) (b : ℕ) (place : Place) : Type 0 where
  pub kept : Kept s s'
  pub writes : s'.writes ≡ s.writes
  pub is : (image : List ℕ) → Sees s' image → place_in (mem s image) b ≡ place

-- the memory represents a state in which the customer, still in block c, has at most this number
-- of bookings. DropCustomer leads from that state to the same outcome as from s
pub record IsLeaving (m : ℕ → ℕ) (n : ℕ) (s : State) (id c most : ℕ) : Type 0 where
  pub state : State
  pub is : IsState m n state
  pub seat : customer_block is id ≡ c
  pub bookings : Bookings
  pub there : bookings_of state id ≡ Some bookings
  pub few : len bookings ≤ most
  pub drops : drop_customer state id ≡ drop_customer s id

-- under each possible image on which the customer is in block c, and b is the block of the first
-- booking, one booking was given back
pub record OneGivenBack (s s' : View) (id c b : ℕ) : Type 0 where
  pub kept : Kept s s'
  pub under : (image : List ℕ) (state : State) (bookings : Bookings) → Sees s' image →
      (h : IsState (mem s image) (length image) state) → customer_block h id ≡ c →
      mem s image (head_of c) ≡ b → HasFirst (mem s image) (length image) state id b →
      bookings_of state id ≡ Some bookings →
      IsLeaving (mem s' image) (length image) state id c (len bookings - 1)

-- under each possible image on which the customer is in block c, bookings were given back until at
-- most this number was left
pub record GivenBack (s s' : View) (id c most : ℕ) : Type 0 where
  pub kept : Kept s s'
  pub under : (image : List ℕ) (state : State) → Sees s' image →
      (h : IsState (mem s image) (length image) state) → customer_block h id ≡ c →
      IsLeaving (mem s' image) (length image) state id c most
