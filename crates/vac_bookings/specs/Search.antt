-- The effects of the steps of a search.
use Rattle.std.specs.Prelude.{◌≡◌, ℕ, ◌+◌, ◌<◌, List, length, Option, Some, None, cond, nat_eq}
use Rattle.std.specs.declared.cmp.Ordering.{Ordering}
use Rattle.std.specs.Ordering.{nat_cmp, ordering_then}
use Rattle.tx_memory.specs.View.{View, Sees, Kept}
use Rattle.tx_alloc.specs.Pointer.{pointer, IsWithin}
use Rattle.tx_alloc.specs.Rows.{Rows, block_at}
use Rattle.tx_alloc.specs.Steps.{mem}
use Rattle.vac_bookings.specs.Bookings.{IsKey, code_of, link_to_key}
use Rattle.vac_bookings.specs.Lists.{IsListAt, FreshBooking, IsInsertion, IsRemoval}
use Rattle.vac_bookings.specs.declared.key.Key.{Key}
use Rattle.vac_bookings.specs.declared.place.TheConstants.{KIND, ID}
use Rattle.vac_bookings.specs.declared.search.Spot.{Spot}

-- the comparison of one kind and id with another: by kind, and then by id
abbrev pub key_cmp : ℕ → ℕ → ℕ → ℕ → Ordering
key_cmp k i k' i' = ordering_then (nat_cmp k k') (nat_cmp i i')

-- only reads were made, and `order` is the comparison of the key in the block b with this key
pub record Compared (s s' : View) (b : ℕ) (key : Key) (order : Ordering) : Type 0 where
  pub kept : Kept s s'
  pub writes : s'.writes ≡ s.writes
  pub is : (image : List ℕ) → Sees s' image →
      order ≡ key_cmp (mem s image (b + KIND)) (mem s image (b + ID)) key.kind key.id

-- the block to which a pointer leads; none for 0
abbrev pub led_to : ℕ → Option ℕ
led_to p = cond (nat_eq p 0) None (Some p)

-- only reads were made, and the search for the key ended at this spot
pub record Sought (s s' : View) (head key : ℕ) (spot : Spot) : Type 0 where
  pub kept : Kept s s'
  pub writes : s'.writes ≡ s.writes
  pub room : spot.link.0 < s'.size
  pub within : IsWithin s' spot.entry
  pub link : (image : List ℕ) (rs : Rows) → Sees s' image →
      IsListAt (mem s image) (length image) head rs → spot.link.0 ≡ link_to_key head rs key
  pub word : (image : List ℕ) → Sees s' image → mem s image spot.link.0 ≡ spot.word
  pub entry : (image : List ℕ) (rs : Rows) → Sees s' image →
      IsListAt (mem s image) (length image) head rs → pointer spot.entry ≡ block_at rs key

-- in the list of these bookings at head, the spot is that of the key: where the key is or would be
pub record SpotAt (m : ℕ → ℕ) (head key : ℕ) (spot : Spot) (rs : Rows) : Type 0 where
  pub link : spot.link.0 ≡ link_to_key head rs key
  pub word : m spot.link.0 ≡ spot.word
  pub entry : pointer spot.entry ≡ block_at rs key

-- the block b came into each list in which the spot is that of the block's key
-- Not said: the effect if the spot is that of no key in any list.
pub record Hung (s s' : View) (spot : Spot) (b : ℕ) : Type 0 where
  pub kept : Kept s s'
  pub insertion : (image : List ℕ) → Sees s' image → (head : ℕ) (key : Key) (rs : Rows) →
      IsKey key → IsListAt (mem s image) (length image) head rs →
      SpotAt (mem s image) head (code_of key) spot rs →
      FreshBooking (mem s image) (length image) head rs key b →
      IsInsertion (mem s image) (mem s' image) (length image) head (code_of key) b rs

-- the booking at a spot, if there was one, left each list in which the spot is that of a key
-- Not said: the effect if the spot is that of no key in any list.
pub record Unhung (s s' : View) (spot : Spot) (removed : Option ℕ) : Type 0 where
  pub kept : Kept s s'
  pub none : removed ≡ None → s'.writes ≡ s.writes
  pub within : IsWithin s' removed
  pub removal : (image : List ℕ) → Sees s' image → (head key : ℕ) (rs : Rows) →
      IsListAt (mem s image) (length image) head rs → SpotAt (mem s image) head key spot rs →
      IsRemoval (mem s image) (mem s' image) (length image) head key removed rs
