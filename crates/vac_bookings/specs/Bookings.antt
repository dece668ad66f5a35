-- A list of bookings: blocks in ascending order of kind and id.
use Rattle.std.specs.Prelude.{◌≡◌, ℕ, ◌+◌, ◌*◌, ◌^◌, ◌<◌, ◌≤◌, [], ◌∷◌, cond, nat_eq, nat_lt}
use Rattle.tx_alloc.specs.Pool.{IsBlock}
use Rattle.tx_alloc.specs.Rows.{Rows}
use Rattle.vac_bookings.specs.declared.key.Key.{Key}
use Rattle.vac_bookings.specs.declared.place.TheConstants.{KIND, ID, NEXT, KINDS}

-- kind and id as one number, which orders by kind and then by id
abbrev pub key_code : ℕ → ℕ → ℕ
key_code kind id = kind * 2 ^ 32 + id

-- the key as one number, by which a list is ordered
abbrev pub code_of : Key → ℕ
code_of key = key_code key.kind key.id

-- the kind is one of three, and the id fits 32 bits
abbrev pub IsKey : Key → Type 0
IsKey key = (key.kind < KINDS) × (key.id < 2 ^ 32)

-- the code of the booking in a block
abbrev pub place_code : (ℕ → ℕ) → ℕ → ℕ
place_code m a = key_code (m (a + KIND)) (m (a + ID))

-- p leads to the block of the row r, whose key is at least lo
pub record IsBookingOfRow (m : ℕ → ℕ) (n p lo : ℕ) (r : ℕ × ℕ) : Type 0 where
  pub at : p ≡ r.1
  pub block : IsBlock n r.1
  pub kind : m (r.1 + KIND) < KINDS
  pub id : m (r.1 + ID) < 2 ^ 32
  pub key : place_code m r.1 ≡ r.0
  pub low : lo ≤ r.0

-- p leads to these bookings, whose keys ascend from lo on
abbrev pub Linked : (ℕ → ℕ) → ℕ → ℕ → ℕ → Rows → Type 0
Linked m n p lo [] = p ≡ 0
Linked m n p lo (r ∷ rs) = IsBookingOfRow m n p lo r × Linked m n (m (r.1 + NEXT)) (r.0 + 1) rs

-- p leads to a list of these bookings
pub record IsList (m : ℕ → ℕ) (n p : ℕ) (rs : Rows) : Type 0 where
  pub linked : Linked m n p 0 rs

-- the block of the first row, or 0
abbrev pub first_block : Rows → ℕ
first_block [] = 0
first_block (r ∷ rs) = r.1

-- the block of the row after the row with this block, or 0
abbrev pub block_behind : Rows → ℕ → ℕ
block_behind [] b = 0
block_behind (r ∷ rs) b = cond (nat_eq r.1 b) (first_block rs) (block_behind rs b)

-- the word that leads to the first row whose key is at least this one, if l leads to the rows
abbrev pub link_to_key : ℕ → Rows → ℕ → ℕ
link_to_key l [] key = l
link_to_key l (r ∷ rs) key = cond (nat_lt r.0 key) (link_to_key (r.1 + NEXT) rs key) l
