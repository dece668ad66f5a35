-- The customer and the item of a command on bookings.
use Rattle.std.proofs.Common.{◌≡◌, ◌≢◌, ℕ, ◌<◌, ◌^◌, List, [], length, Option, Some, None, sym, ap, ◌∙◌, subst, arith}
use Rattle.std.specs.FinMap.{get}
use Rattle.tx_memory.specs.View.{View, Words, Sees, RestsOn, memory}
use Rattle.vac_model.specs.declared.items.Kind.{Kind}
use Rattle.vac_model.specs.State.{State, Place, item_of}
use Rattle.tx_alloc.specs.Pointer.{pointer, IsWithin}
use Rattle.tx_alloc.specs.Pool.{IsBlock}
use Rattle.tx_alloc.specs.Rows.{times}
use Rattle.vac_bookings.specs.declared.search.Spot.{Spot}
use Rattle.vac_bookings.specs.Lists.{IsListAt, HasList}
use Rattle.vac_bookings.specs.Search.{Sought, SpotAt}
use Rattle.vac_bookings.proofs.Spots.{sought_spot}
use Rattle.vac_records.specs.Items.{mem, item_in}
use Rattle.vac_records.specs.Bookings.{place_key, booking_in}
use Rattle.vac_records.specs.Customers.{head_of}
use Rattle.vac_records.specs.Represents.{IsState}
use Rattle.vac_records.specs.InMemory.{HoldsState, OnlyRead}
use Rattle.vac_records.specs.Laws.{HasBookings, IsCustomerAt, IsItemAt}
use Rattle.vac_records.proofs.Keyed.{row_at, row_times}
use Rattle.vac_records.proofs.Shifts.{in_table, in_list}
use Rattle.vac_records.specs.Steps.{stood}
use Rattle.vac_records.proofs.Items.{item_found}
use Rattle.vac_records.proofs.Customers.{customer_found}
use Rattle.vac_records.proofs.Booked.{booking_found, booking_missing}
use Rattle.vac_records.proofs.Bridges.{list_there}
use Rattle.vac_tasks.specs.Entries.{customer_block, HasItemAt, HasCustomerAt, ItemIsAt, CustomerIsAt}
use Rattle.vac_tasks.specs.BookingSteps.{booking_block, Here, HasBookingAt, HasSpot}
use Rattle.vac_tasks.proofs.Held.{read_both}

pub here : (s : View) (customer owner : ℕ) (kind : Kind) (id item : ℕ) → HasCustomerAt s customer owner →
    HasItemAt s kind id item → id < 2 ^ 32 →
    (image : List ℕ) (state : State) → Sees s image → (h : IsState (mem s image) (length image) state) →
    Here h customer owner kind id item
here s customer owner kind id item c f small image state i h = record {
  owner_is = c.at image state i h;
  owner_some = c.some;
  item_is = f.at image state i h;
  item_some = f.some;
  small = small;
}

-- the same of images of the memory's size
pub here_at : (s : View) (customer owner : ℕ) (kind : Kind) (id item : ℕ) → CustomerIsAt s customer owner →
    ItemIsAt s kind id item → id < 2 ^ 32 →
    (image : List ℕ) (state : State) → RestsOn s image → (h : IsState (mem s image) (length image) state) →
    Here h customer owner kind id item
here_at s customer owner kind id item c f small image state i h = record {
  owner_is = c.at image state i h;
  owner_some = c.some;
  item_is = f.at image state i h;
  item_some = f.some;
  small = small;
}

module _ (m : ℕ → ℕ) (n : ℕ) (s : State) (h : IsState m n s) (customer owner : ℕ) (kind : Kind) (id item : ℕ)
    (e : Here h customer owner kind id item) where
  pub owned : HasBookings m (h.represents.parts.lists owner) s customer
  owned = customer_found m n [] s h.represents customer owner e.owner_is e.owner_some

  pub at_owner : (o : HasBookings m (h.represents.parts.lists owner) s customer) →
      IsCustomerAt h.represents customer owner o.bookings
  at_owner o = record { at = e.owner_is; some = e.owner_some; there = o.there }

  pub its_list : IsListAt m n (head_of owner) (h.represents.parts.lists owner)
  its_list = list_there m n [] s customer owner owned.bookings h.represents (at_owner owned)

  pub at_item : IsItemAt h.represents kind id item
  at_item = record { at = e.item_is; some = e.item_some }

  pub its_item : item_of s kind id ≡ Some (item_in m item)
  its_item = item_found m n [] s h.represents kind id item at_item

  pub booked_at : (o : HasBookings m (h.represents.parts.lists owner) s customer) (b : ℕ) →
      booking_block h owner (kind, id) ≡ b → b ≢ 0 → get o.bookings (kind, id) ≡ Some (booking_in m b)
  booked_at o b is some = booking_found m n [] s h.represents customer owner o.bookings (kind, id) b (at_owner o)
      (record { small = e.small; at = is; some = some })

  pub not_booked : (o : HasBookings m (h.represents.parts.lists owner) s customer) →
      booking_block h owner (kind, id) ≡ 0 → get o.bookings (kind, id) ≡ None
  not_booked o none = booking_missing m n [] s h.represents customer owner o.bookings (kind, id) e.small
      (at_owner o) none

  pub booking_is_block : (b : ℕ) → booking_block h owner (kind, id) ≡ b → b ≢ 0 → IsBlock n b
  booking_is_block b is some =
      let p = h.represents.parts in
      in_list m n p h.represents.heap owner b
      (row_times customer owner (p.tables 3) (row_at customer owner (p.tables 3) e.owner_is e.owner_some))
      (row_times (place_key (kind, id)) b (p.lists owner) (row_at (place_key (kind, id)) b (p.lists owner) is some))

  pub owner_in_table : 0 < times owner (h.represents.parts.tables 3)
  owner_in_table =
      let p = h.represents.parts in
      row_times customer owner (p.tables 3) (row_at customer owner (p.tables 3) e.owner_is e.owner_some)

  pub owner_is_block : IsBlock n owner
  owner_is_block =
      let p = h.represents.parts in
      in_table m n p h.represents.heap 3 owner (omega arith) owner_in_table

-- the customer's list of bookings
pub owner_list : (m : ℕ → ℕ) (n : ℕ) (s : State) (h : IsState m n s) (customer owner : ℕ) →
    customer_block h customer ≡ owner → owner ≢ 0 → IsListAt m n (head_of owner) (h.represents.parts.lists owner)
owner_list m n s h customer owner is some =
    let o = customer_found m n [] s h.represents customer owner is some in
    list_there m n [] s customer owner o.bookings h.represents (record { at = is; some = some; there = o.there })

pub list_held : (s : View) (customer owner : ℕ) → HoldsState s → CustomerIsAt s customer owner →
    HasList s (head_of owner)
list_held s customer owner has c = record {
  small = has.small;
  room = omega (arith, c.inside.1);
  under = λ image i.
      let t = has.under image i in
      record {
        entries = t.1.represents.parts.lists owner;
        is = owner_list (mem s image) (length
            image) t.0 t.1 customer owner (c.at image t.0 i t.1) c.some;
      };
}

-- a look for a booking
pub sought_only : (s s' : View) (head key : ℕ) (spot : Spot) → Sought s s' head key spot → OnlyRead s s'
sought_only s s' head key spot f = record { kept = f.kept; writes = f.writes }

-- a customer, an item, and where the booking stands
pub found_after : (s s1 s2 s3 : View) (head key : ℕ) (spot : Spot) → OnlyRead s s1 → OnlyRead s1 s2 →
    Sought s2 s3 head key spot → OnlyRead s s3
found_after s s1 s2 s3 head key spot r q f = read_both s s2 s3 (read_both s s1 s2 r q)
    (sought_only s2 s3 head key spot f)

-- where the search came to, of the memory before the reads
pub spot_at : (s s2 s3 : View) (customer owner : ℕ) (kind : Kind) (id item : ℕ) (spot : Spot) → OnlyRead s s2 →
    Sought s2 s3 (head_of owner) (place_key (kind, id)) spot →
    (image : List ℕ) (state : State) → Sees s3 image → (h : IsState (mem s image) (length image) state) →
    Here h customer owner kind id item →
    SpotAt (mem s image) (head_of owner) (place_key (kind, id)) spot (h.represents.parts.lists owner)
spot_at s s2 s3 customer owner kind id item spot r f image state i h e =
    let rows = h.represents.parts.lists owner in
    let l : IsListAt (mem s2 image) (length image) (head_of owner) rows =
    rw r.writes (its_list (mem s image) (length image) state h customer owner kind id item e) in
    let p : SpotAt (mem s2 image) (head_of owner) (place_key (kind, id)) spot rows =
    sought_spot s2 s3 (head_of owner) (place_key (kind, id)) spot f image rows i l in
    rw r.writes at p

-- the same under images of the memory's size, of the memory after the search
pub spot_same : (s s' : View) (image : List ℕ) (state : State) (owner : ℕ) (place : Place) (spot : Spot) →
    s'.writes ≡ s.writes →
    ((h : IsState (mem s image) (length image) state) → SpotAt (mem s image) (head_of owner) (place_key place) spot
    (h.represents.parts.lists owner)) →
    (h : IsState (mem s' image) (length image) state) → SpotAt (mem s' image) (head_of owner) (place_key place) spot
    (h.represents.parts.lists owner)
spot_same s s' image state owner place spot w f =
    subst (λ (ws : Words). (h : IsState (memory image ws) (length image) state) →
    SpotAt (memory image ws) (head_of owner) (place_key place) spot (h.represents.parts.lists owner)) (sym w) f

pub spot_held : (s s' : View) (customer owner : ℕ) (place : Place) (spot : Spot) → CustomerIsAt s customer owner →
    Sought s s' (head_of owner) (place_key place) spot → HasSpot s' owner place spot
spot_held s s' customer owner place spot c f = record {
  room = f.room;
  within = f.within;
  at = λ image state i. spot_same s s' image state owner place spot f.writes (λ h.
      sought_spot s s' (head_of owner) (place_key place) spot f image (h.represents.parts.lists owner) i.sees
      (owner_list (mem s image) (length image) state h customer owner
      (c.at image state (stood f.kept image i) h) c.some));
}

pub booking_held : (s : View) (owner : ℕ) (place : Place) (spot : Spot) (b : ℕ) → spot.entry ≡ Some b →
    HasSpot s owner place spot → HasBookingAt s owner place b
booking_held s owner place spot b e p = record {
  inside = subst (λ (o : Option ℕ). IsWithin s o) e p.within;
  at = λ image state i h. sym (p.at image state i h).entry ∙ ap pointer e;
}

pub some_booking : (s : View) (owner : ℕ) (place : Place) (b : ℕ) → HasBookingAt s owner place b → b ≢ 0
some_booking s owner place b g = let low = g.inside.0 in omega arith
