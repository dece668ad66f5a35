-- Customers and their bookings in blocks of a transactional memory. The words of a customer's
-- block are key, left, right, colour, head of the bookings, and three spare words.
use Rattle.std.specs.Prelude.{◌≡◌, ◌≢◌, ◌⊎◌, ℕ, ◌+◌, ◌*◌, ◌<◌, ◌≤◌, ◌^◌, List, [], ◌∷◌, length, Option, Some, None}
use Rattle.tx_memory.specs.View.{View, Sees, RestsOn, Kept}
use Rattle.vac_model.specs.declared.items.Booking.{Booking}
use Rattle.vac_model.specs.State.{Place, kind_number}
use Rattle.vac_model.specs.Step.{new_booking}
use Rattle.tx_alloc.specs.Pointer.{pointer, IsWithin}
use Rattle.tx_alloc.specs.Pool.{IsBlock}
use Rattle.tx_alloc.specs.declared.place.TheConstants.{BLOCK_WORDS, MOST_BLOCKS}
use Rattle.vac_bookings.specs.declared.place.TheConstants.{ID, SUM, UNITS}
use Rattle.vac_records.specs.declared.place.TheConstants.{BOOKINGS}
use Rattle.tx_alloc.specs.Rows.{Rows, times, put_row, cut_row, block_at, Relinks}
use Rattle.vac_bookings.specs.Lists.{IsListAt, IsOutside}
use Rattle.vac_bookings.specs.Search.{SpotAt}
use Rattle.vac_bookings.specs.declared.search.Spot.{Spot}
use Rattle.vac_records.specs.Items.{mem, IsNode, RoomAt}
use Rattle.vac_records.specs.Bookings.{booking_in, place_key}

-- the word that leads to the bookings of the customer in a block
abbrev pub head_of : ℕ → ℕ
head_of customer = customer + BOOKINGS

-- the block is now a customer without bookings; its links and all words outside the block are as
-- before
pub record IsNewCustomer (m m' : ℕ → ℕ) (node key : ℕ) : Type 0 where
  pub key_is : m' node ≡ key
  pub head_is : m' (head_of node) ≡ 0
  pub spare : (k : ℕ) → 5 ≤ k → k < BLOCK_WORDS → m' (node + k) ≡ 0
  pub others : (x : ℕ) → x ≢ node → (x < head_of node) ⊎ (node + BLOCK_WORDS ≤ x) →
      m' x ≡ m x

-- under each possible image the block is now a new customer
pub record CustomerMade (s s' : View) (node key : ℕ) : Type 0 where
  pub kept : Kept s s'
  pub made : (image : List ℕ) → Sees s' image →
      IsNewCustomer (mem s image) (mem s' image) node key

-- the block lies within the memory, and the sum fits 64 bits
pub record CanMakeBooking (s : View) (b total : ℕ) : Type 0 where
  pub node : IsNode s b
  pub sum : total < 2 ^ 64

-- the block is now a booking of num units at this price; its link and all words outside the block
-- are as before
pub record IsNewBooking (m m' : ℕ → ℕ) (node : ℕ) (place : Place) (num price : ℕ) : Type 0 where
  pub kind_is : m' node ≡ kind_number place.0
  pub id_is : m' (node + ID) ≡ place.1
  pub is : booking_in m' node ≡ new_booking num price
  pub spare : (k : ℕ) → 5 ≤ k → k < BLOCK_WORDS → m' (node + k) ≡ 0
  pub others : (x : ℕ) → (x < node) ⊎ (node + BLOCK_WORDS ≤ x) → m' x ≡ m x

-- under each possible image the block is now a new booking
pub record BookingMade (s s' : View) (node : ℕ) (place : Place) (num price : ℕ) : Type 0 where
  pub kept : Kept s s'
  pub made : (image : List ℕ) → Sees s' image →
      IsNewBooking (mem s image) (mem s' image) node place num price

-- under each possible image the booking's sum and units can grow by num units at this price and
-- fit 64 bits
pub record CanExtend (s : View) (node num price : ℕ) : Type 0 where
  pub sum : RoomAt s (node + SUM) (num * price)
  pub units : RoomAt s (node + UNITS) num

-- the block's booking now has this value, and all words except its sum and its units are as before
pub record IsBookingNow (m m' : ℕ → ℕ) (node : ℕ) (b : Booking) : Type 0 where
  pub is : booking_in m' node ≡ b
  pub others : (x : ℕ) → x ≢ node + SUM → x ≢ node + UNITS → m' x ≡ m x

-- under each possible image the booking was changed by f
pub record BookingChanged (s s' : View) (node : ℕ) (f : Booking → Booking) : Type 0 where
  pub kept : Kept s s'
  pub changed : (image : List ℕ) → Sees s' image →
      IsBookingNow (mem s image) (mem s' image) node (f (booking_in (mem s image) node))

-- the customer's list has no booking of the place, and b is a block that is neither the customer's
-- block nor in the list
pub record IsLoose (m : ℕ → ℕ) (n customer : ℕ) (rows : Rows) (place : Place)
    (b : ℕ) : Type 0 where
  pub block : IsBlock n b
  pub outside : IsOutside (head_of customer) b
  pub absent : block_at rows (place_key place) ≡ 0
  pub loose : times b rows ≡ 0

-- the block was made a booking, which gave the memory `between`, and was then linked into the
-- customer's list
pub record IsBooked (m m' : ℕ → ℕ) (n customer : ℕ) (rows : Rows) (place : Place)
    (num price b : ℕ) : Type 0 where
  pub between : ℕ → ℕ
  pub made : IsNewBooking m between b place num price
  pub list : IsListAt m' n (head_of customer) (put_row rows (place_key place) b)
  pub relinks : Relinks between m' 3 (head_of customer) (put_row rows (place_key place) b)

-- the block was made a booking of this place, and was linked into each customer's list that has no
-- booking of the place and in which this is the spot of the place
-- Not said: the limit of a booking's units, which the caller proves; the effect of a refused call.
pub record BookedAt (s s' : View) (spot : Spot) (place : Place) (num price b : ℕ) : Type 0 where
  pub kept : Kept s s'
  pub booked : (image : List ℕ) → Sees s' image → (customer : ℕ) (rows : Rows) →
      IsListAt (mem s image) (length image) (head_of customer) rows →
      SpotAt (mem s image) (head_of customer) (place_key place) spot rows →
      IsLoose (mem s image) (length image) customer rows place b →
      IsBooked (mem s image) (mem s' image) (length image) customer rows place num price b

-- the second number is the units of the removed booking, if one was removed
abbrev pub UnitsOf : (ℕ → ℕ) → Option (ℕ × ℕ) → Type 0
UnitsOf m None = Unit {0}
UnitsOf m (Some taken) = m (taken.0 + 4) ≡ taken.1

-- the block of the removed booking, if one was removed
abbrev pub block_of : Option (ℕ × ℕ) → Option ℕ
block_of None = None
block_of (Some taken) = Some taken.0

-- the booking of the place left the list of these rows, if the list had it, and the result is its
-- block with its units. No word was changed except the links of the list.
pub record IsUnbooking (m m' : ℕ → ℕ) (n customer : ℕ) (place : Place)
    (taken : Option (ℕ × ℕ)) (rows : Rows) : Type 0 where
  pub is : pointer (block_of taken) ≡ block_at rows (place_key place)
  pub units : UnitsOf m taken
  pub list : IsListAt m' n (head_of customer) (cut_row rows (place_key place))
  pub relinks : Relinks m m' 3 (head_of customer) rows

-- the booking at a spot left each customer's list in which the spot is that of a place. If the spot
-- has no booking, nothing was written.
pub record UnbookedAt (s s' : View) (spot : Spot) (taken : Option (ℕ × ℕ)) : Type 0 where
  pub kept : Kept s s'
  pub none : taken ≡ None → s'.writes ≡ s.writes
  pub within : IsWithin s' (block_of taken)
  pub unbooking : (image : List ℕ) → Sees s' image →
      (customer : ℕ) (place : Place) (rows : Rows) →
      IsListAt (mem s image) (length image) (head_of customer) rows →
      SpotAt (mem s image) (head_of customer) (place_key place) spot rows →
      IsUnbooking (mem s image) (mem s' image) (length image) customer place taken rows

-- the total of the sums of the bookings in these rows
abbrev pub sum_in : (ℕ → ℕ) → Rows → ℕ
sum_in m [] = 0
sum_in m (r ∷ rs) = m (r.1 + 2) + sum_in m rs

-- the customer has these bookings, at most 262,144, and their sums add up to a 64-bit number
pub record HasBill (m : ℕ → ℕ) (n customer : ℕ) (rows : Rows) : Type 0 where
  pub list : IsListAt m n (head_of customer) rows
  pub few : length rows ≤ MOST_BLOCKS
  pub fits : sum_in m rows < 2 ^ 64

-- the customer has some bookings whose sums add up to a 64-bit number
pub record SomeBill (m : ℕ → ℕ) (n customer : ℕ) : Type 0 where
  pub entries : Rows
  pub is : HasBill m n customer entries

-- under each possible image of the memory's size, the customer has a bill. Addresses fit 32 bits.
pub record CanBill (s : View) (customer : ℕ) : Type 0 where
  pub small : s.size ≤ 2 ^ 32
  pub room : head_of customer < s.size
  pub under : (image : List ℕ) → RestsOn s image → SomeBill (mem s image) (length image) customer

-- only reads were made, and the result is the total of the bookings' sums
pub record Billed (s s' : View) (customer total : ℕ) : Type 0 where
  pub kept : Kept s s'
  pub writes : s'.writes ≡ s.writes
  pub is : (image : List ℕ) (rows : Rows) → Sees s' image →
      HasBill (mem s image) (length image) customer rows → total ≡ sum_in (mem s image) rows
