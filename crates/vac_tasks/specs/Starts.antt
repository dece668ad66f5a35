-- Links of a customer's list from which the search for a booking may start.
use Rattle.std.specs.Prelude.{◌≡◌, ℕ, ◌+◌, ◌<◌, ◌≤◌, List, length, Option, Some, None}
use Rattle.tx_memory.specs.View.{View, Sees, RestsOn}
use Rattle.vac_model.specs.declared.commands.Refusal.TheVariants.{Full}
use Rattle.vac_model.specs.declared.items.Kind.{Kind}
use Rattle.vac_model.specs.declared.replies.Reply.{Reply}
use Rattle.vac_model.specs.declared.replies.Reply.TheVariants as reply
use Rattle.vac_model.specs.State.{State, Place}
use Rattle.tx_alloc.specs.Rows.{Rows}
use Rattle.tx_alloc.specs.declared.place.TheConstants.{BLOCK_WORDS}
use Rattle.vac_bookings.specs.Bookings.{link_to_key}
use Rattle.vac_records.specs.Items.{mem}
use Rattle.vac_records.specs.Bookings.{place_key}
use Rattle.vac_records.specs.Customers.{head_of}
use Rattle.vac_records.specs.Represents.{IsState}
use Rattle.vac_records.specs.Laws.{IsBookingAt}
use Rattle.vac_tasks.specs.BookingSteps.{Here}

-- the reply to a Reserve for a customer without a booking of the item, from the block that was
-- found for the booking, if any
abbrev pub adding : Option ℕ → Reply
adding None = reply.No Full
adding (Some block) = reply.Done

-- in the list of these bookings at head, the link leads to the first booking whose key is at least
-- `low`, which is no more than the key: a search for the key may start at the link
pub record MayStart (head link key : ℕ) (rs : Rows) : Type 0 where
  pub low : ℕ
  pub early : low ≤ key
  pub is : link ≡ link_to_key head rs low

-- the customer and the item are in these blocks, and a search for the customer's booking of the
-- item may start at the link
pub record AtStart (customer owner : ℕ) (kind : Kind) (id item link : ℕ) (m : ℕ → ℕ) (n : ℕ)
    (s : State) (h : IsState m n s) : Type 0 where
  pub here : Here h customer owner kind id item
  pub start : MayStart (head_of owner) link (place_key (kind, id)) (h.represents.parts.lists owner)

-- under each possible image of the memory's size, a search for the key in the list of the customer
-- in block `owner` may start at the link
pub record HasStart (s : View) (owner link key : ℕ) : Type 0 where
  pub room : link < s.size
  pub at : (image : List ℕ) (state : State) → RestsOn s image →
      (h : IsState (mem s image) (length image) state) →
      MayStart (head_of owner) link key (h.represents.parts.lists owner)

-- under each possible image on which the memory represented a state with the property P, a search
-- for the key in the list of the customer in block `owner` may now start at the link
pub record LeavesStart (s s' : View) (owner link key : ℕ)
    (P : (m : ℕ → ℕ) (n : ℕ) (state : State) → IsState m n state → Type 0) : Type 0 where
  pub room : link < s'.size
  pub at : (image : List ℕ) (state state' : State) → Sees s' image →
      (h : IsState (mem s image) (length image) state) → P (mem s image) (length image) state h →
      (h' : IsState (mem s' image) (length image) state') →
      MayStart (head_of owner) link key (h'.represents.parts.lists owner)

-- b is a block of the memory, and under each possible image on which the memory represented a
-- state with the property P, b is now the block of the place's booking in the list of the customer
-- in block `owner`
pub record LeavesBooking (s s' : View) (owner : ℕ) (place : Place) (b : ℕ)
    (P : (m : ℕ → ℕ) (n : ℕ) (state : State) → IsState m n state → Type 0) : Type 0 where
  pub room : b + BLOCK_WORDS ≤ s'.size
  pub at : (image : List ℕ) (state state' : State) → Sees s' image →
      (h : IsState (mem s image) (length image) state) → P (mem s image) (length image) state h →
      (h' : IsState (mem s' image) (length image) state') → IsBookingAt h'.represents owner place b
