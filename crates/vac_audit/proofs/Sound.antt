-- A heap that is sound in all its parts, which is what the audit of words looks for.
use Rattle.std.specs.Prelude.{◌≡◌, ◌≢◌, ℕ, ◌+◌, ◌*◌, ◌^◌, ◌<◌, ◌≤◌, [], ◌∷◌, Ok, false}
use Rattle.tx_alloc.specs.Pool.{IsPool}
use Rattle.tx_alloc.specs.Rows.{Rows, IsFrom, block_at}
use Rattle.vac_bookings.specs.Bookings.{IsList}
use Rattle.vac_records.specs.Heap.{Parts, over, used_in, count_in}
use Rattle.vac_audit.specs.Tree.{Tree, rows, is_red, IsEven, IsApart, Hangs}
use Rattle.vac_audit.specs.Walk.{units_in, walk, audit, report_of}

-- p points to a table of these rows, with keys from 1 on: a tree in order, coloured, with a black
-- root
pub record IsTreeTable (m : ℕ → ℕ) (n p : ℕ) (rs : Rows) : Type 0 where
  pub tree : Tree
  pub is : rows tree ≡ rs
  pub hangs : Hangs m n p tree
  pub rises : IsFrom 1 rs
  pub even : IsEven tree
  pub apart : IsApart tree
  pub black : is_red tree ≡ false

-- a fact of each row
abbrev pub Each : (ℕ × ℕ → Type 0) → Rows → Type 0
Each P [] = Unit {0}
Each P (r ∷ rs) = P r × Each P rs

-- the item in a block has counts and a price in their ranges
pub record IsItemAt (m : ℕ → ℕ) (a : ℕ) : Type 0 where
  pub some : 1 ≤ m (a + 6)
  pub few : m (a + 6) ≤ 1000000000
  pub sum : m (a + 4) + m (a + 5) ≡ m (a + 6)
  pub price : m (a + 7) ≤ 1000000

-- the booking in the block of a row has units and a sum in their ranges, and its item exists
pub record IsBookingRow (m : ℕ → ℕ) (tables : ℕ → Rows) (r : ℕ × ℕ) : Type 0 where
  pub id : 1 ≤ m (r.1 + 1)
  pub some : 1 ≤ m (r.1 + 4)
  pub few : m (r.1 + 4) ≤ 10000
  pub sum : m (r.1 + 2) ≤ m (r.1 + 4) * 1000000
  pub item : block_at (tables (m r.1)) (m (r.1 + 1)) ≢ 0

pub record IsSound (m : ℕ → ℕ) (n : ℕ) (p : Parts) : Type 0 where
  pub tables : (i : ℕ) → i < 4 → IsTreeTable m n (m (1 + i)) (p.tables i)
  pub keys : (i : ℕ) → i < 4 → Each (λ r. r.0 < 2 ^ 32) (p.tables i)
  pub items : (i : ℕ) → i < 3 → Each (λ r. IsItemAt m r.1) (p.tables i)
  pub lists : Each (λ r. IsList m n (m (r.1 + 4)) (p.lists r.1) × Each (IsBookingRow m p.tables) (p.lists r.1))
      (p.tables 3)
  pub used : (i : ℕ) → i < 3 → Each (λ r. m (r.1 + 4) ≡ over (units_in m (i * 2 ^ 32 + r.0)) (p.tables 3) p.lists)
      (p.tables i)
  pub pool : IsPool m n p.free (used_in p) (count_in p)
  pub none_out : p.out ≡ []

-- if the walk meets no flaw, it found a sound heap
abbrev pub SoundLaw : Type 0
SoundLaw = (m : ℕ → ℕ) (blocks : ℕ) (p : Parts) → walk m blocks ≡ Ok p →
    IsSound m (16 + 8 * blocks) p

-- in a sound heap the walk meets no flaw, and the report is the heap's
abbrev pub CleanLaw : Type 0
CleanLaw = (m : ℕ → ℕ) (blocks : ℕ) (p : Parts) → IsSound m (16 + 8 * blocks) p →
    audit m blocks ≡ Ok (report_of m p)
