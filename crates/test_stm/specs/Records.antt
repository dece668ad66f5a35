-- Memories of 96 words with an item or a customer in one of the blocks.
use Rattle.std.specs.Prelude.{◌≡◌, ℕ, List, [], ◌∷◌, length}
use Rattle.tx_memory.specs.View.{View, Sees}
use Rattle.vac_model.specs.declared.items.Kind.TheVariants.{Flight}
use Rattle.vac_bookings.specs.Lists.{IsListAt}
use Rattle.vac_records.specs.Items.{mem, item_in, IsNode}
use Rattle.vac_records.specs.Bookings.{place_key}
use Rattle.vac_records.specs.Customers.{head_of}

-- the memory has 96 words
abbrev pub IsSized : (ℕ → ℕ) → ℕ → Type 0
IsSized m n = n ≡ 96

-- under each possible image, the block has these counts and this price
pub record HasItem (s : View) (node used free total price : ℕ) : Type 0 where
  pub node_is : IsNode s node
  pub under : (image : List ℕ) → Sees s image →
      item_in (mem s image) node ≡
      record { used = used; free = free; total = total; price = price }

-- under each possible image, the customer in block 24 has no booking
pub record HasNoBooking (s : View) : Type 0 where
  pub size : s.size ≡ 96
  pub long : (image : List ℕ) → Sees s image → length image ≡ 96
  pub head_is : (image : List ℕ) → Sees s image → mem s image (head_of 24) ≡ 0

-- under each possible image, the customer in block 24 has one booking, in block 32
pub record HasOneBooking (s : View) (key units sum : ℕ) : Type 0 where
  pub size : s.size ≡ 96
  pub long : (image : List ℕ) → Sees s image → length image ≡ 96
  pub list : (image : List ℕ) → Sees s image →
      IsListAt (mem s image) (length image) (head_of 24) ((key, 32) ∷ [])
  pub sum_is : (image : List ℕ) → Sees s image → mem s image 34 ≡ sum
  pub units_is : (image : List ℕ) → Sees s image → mem s image 36 ≡ units

-- the key of a booking of flight 7
abbrev pub flight_key : ℕ
flight_key = place_key (Flight, 7)
