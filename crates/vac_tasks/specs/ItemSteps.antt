-- A step of a command on an item.
use Rattle.std.specs.Prelude.{◌≡◌, ◌≢◌, ℕ, ◌+◌, List, Option, unwrap_or}
use Rattle.tx_memory.specs.View.{View, Sees, Kept}
use Rattle.vac_records.specs.declared.place.TheConstants.{PRICE}
use Rattle.vac_records.specs.Items.{mem}

-- under each possible image the item has this price, if a price is given, and all other words are
-- as before
pub record PriceGiven (s s' : View) (node : ℕ) (price : Option ℕ) : Type 0 where
  pub kept : Kept s s'
  pub is : (image : List ℕ) → Sees s' image →
      mem s' image (node + PRICE) ≡ unwrap_or price (mem s image (node + PRICE))
  pub others : (image : List ℕ) → Sees s' image → (x : ℕ) → x ≢ node + PRICE →
      mem s' image x ≡ mem s image x
