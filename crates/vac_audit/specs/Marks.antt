-- The relation between the definition of the audit and the running walk, which keeps a mark for
-- each block that was reached.
use Rattle.std.specs.Prelude.{◌≡◌, ℕ, ◌+◌, ◌*◌, ◌<◌, ◌≤◌, ◌^◌, ◌≢◌, Bool, false, not, cond, List, [], ◌∷◌, length, nat_eq, slice_index, slice_index_or, Result, Ok, Err, MatchResult, MatchOption, Option, suc, sum_by, ⊤}
use Rattle.tx_alloc.specs.Pool.{held, heap_words, block_place, IsBlock}
use Rattle.tx_alloc.specs.declared.place.TheConstants.{MOST_BLOCKS}
use Rattle.vac_bookings.specs.Bookings.{key_code}
use Rattle.vac_model.specs.declared.limits.TheConstants.{MOST_AMOUNT, MOST_UNITS}
use Rattle.vac_audit.specs.Noted.{InOrder, keys_in, blocks_in, booked_in, codes_in}
use Rattle.vac_audit.specs.Walk.{then, wants, is_in_order, is_booking, walk_bookings, units_in, follow, walk_free, walk_lists, check_reached}
use Rattle.tx_alloc.specs.Rows.{Rows, block_at}
use Rattle.vac_audit.specs.declared.Flaw.{Flaw}
use Rattle.vac_audit.specs.declared.notes.Notes.{Notes}
use Rattle.vac_audit.specs.declared.Flaw.TheVariants.{Order, Bookings}

-- exactly the blocks that were reached have a mark
pub record Marks (marks : List Bool) (seen : List ℕ) : Type 0 where
  pub is : (b : ℕ) → b < length marks →
      slice_index_or marks b false ≡ not (nat_eq (held (block_place b) seen) 0)

-- there is one mark for each block of the words, and the number of blocks is within the limit
pub record IsMarked (words : List ℕ) (marks : List Bool) : Type 0 where
  pub size : length words ≡ heap_words (length marks)
  pub few : length marks ≤ MOST_BLOCKS

-- the pointer in word `at` was followed: the result and the marks are those of the definition
abbrev pub Followed : List ℕ → List Bool → List Bool → ℕ → Result (Option ℕ) Flaw → Type 0
Followed words marks marks' at result = (seen : List ℕ) → Marks marks seen → MatchResult result
    (λ found. MatchOption found
    ((follow (slice_index words) (length words) at seen ≡ Ok 0) × Marks marks' seen)
    (λ p. (follow (slice_index words) (length words) at seen ≡ Ok p)
    × IsBlock (length words) p × Marks marks' (p ∷ seen)))
    (λ flaw. follow (slice_index words) (length words) at seen ≡ Err flaw)

-- a pointer that was followed points to a block, or is the end
abbrev pub LandsOnBlock : List ℕ → Result (Option ℕ) Flaw → Type 0
LandsOnBlock words result = MatchResult result
    (λ found. MatchOption found (Unit {0}) (λ p. IsBlock (length words) p))
    (λ flaw. Unit {0})

-- the number of blocks without a mark
abbrev pub unmarked : List Bool → ℕ
unmarked [] = 0
unmarked (b ∷ bs) = cond b 0 1 + unmarked bs

-- a block that was reached gets a mark, so that one block fewer is unmarked
abbrev pub Fewer : List Bool → List Bool → Result (Option ℕ) Flaw → Type 0
Fewer marks marks' result = MatchResult result
    (λ found. MatchOption found
    (unmarked marks' ≡ unmarked marks)
    (λ p. unmarked marks' + 1 ≡ unmarked marks))
    (λ flaw. Unit {0})

-- the definition's walk of a free list of these words, with one level more than blocks
abbrev pub free_list : List ℕ → ℕ → ℕ → List ℕ → Result (List ℕ × List ℕ) Flaw
free_list words blocks head seen =
    walk_free (slice_index words) (length words) (suc blocks) head seen

-- the definition's walk of all eight free lists of these words
abbrev pub free_lists : List ℕ → ℕ → List ℕ → Result ((ℕ → List ℕ) × List ℕ) Flaw
free_lists words blocks seen =
    walk_lists (slice_index words) (length words) (suc blocks) 8 seen

-- the definition's walk of a customer's bookings in these words
abbrev pub booking_list : List ℕ → ℕ → (ℕ → Rows) → ℕ → List ℕ → Result (Rows × List ℕ) Flaw
booking_list words blocks tables head seen =
    walk_bookings (slice_index words) (length words) tables (suc blocks) head 0 seen

-- a free list was walked: the result and the marks are those of the definition
abbrev pub FreeListRan : List ℕ → List Bool → List Bool → ℕ → Result ⊤ Flaw → Type 0
FreeListRan words marks marks' head result =
    (seen : List ℕ) → Marks marks seen → MatchResult result
    (λ _. (x : List ℕ × List ℕ) × ((free_list words (length marks) head seen ≡ Ok x)
    × Marks marks' x.1))
    (λ flaw. free_list words (length marks) head seen ≡ Err flaw)

-- all eight free lists were walked: the result and the marks are those of the definition
abbrev pub ListsRan : List ℕ → List Bool → List Bool → Result ⊤ Flaw → Type 0
ListsRan words marks marks' result =
    (seen : List ℕ) → Marks marks seen → MatchResult result
    (λ _. (x : (ℕ → List ℕ) × List ℕ) × ((free_lists words (length marks) seen ≡ Ok x)
    × Marks marks' x.1))
    (λ flaw. free_lists words (length marks) seen ≡ Err flaw)

-- each block was reached, or the flaw is the one that the definition finds
abbrev pub ReachedRan : List Bool → Result ⊤ Flaw → Type 0
ReachedRan marks result = (seen : List ℕ) → Marks marks seen → MatchResult result
    (λ _. check_reached (length marks) seen ≡ Ok tt)
    (λ flaw. check_reached (length marks) seen ≡ Err flaw)

-- the codes are those of the keys of all items of these tables
pub record IsIndex (codes : List ℕ) (tables : ℕ → Rows) : Type 0 where
  pub there : (kind id : ℕ) → kind < 3 → id < 2 ^ 32 → block_at (tables kind) id ≢ 0 →
      (i : ℕ) × ((i < length codes) × (slice_index codes i ≡ key_code kind id))
  pub back : (kind id i : ℕ) → kind < 3 → id < 2 ^ 32 → i < length codes →
      slice_index codes i ≡ key_code kind id → block_at (tables kind) id ≢ 0

-- the definition's tests of a booking: its order, then its numbers and its item
abbrev pub look_at_booking : (ℕ → ℕ) → (ℕ → Rows) → ℕ → ℕ → Result (Unit {0}) Flaw
look_at_booking m tables p lo =
    then (wants (is_in_order m p lo) (Order p)) (λ _.
    wants (is_booking m tables p) (Bookings p))

-- a booking was tested: the result is that of the definition
abbrev pub BookingLooked : List ℕ → List ℕ → ℕ → ℕ → Result ℕ Flaw → Type 0
BookingLooked words codes p lo result =
    (tables : ℕ → Rows) → IsIndex codes tables → MatchResult result
    (λ i. (look_at_booking (slice_index words) tables p lo ≡ Ok tt))
    (λ flaw. look_at_booking (slice_index words) tables p lo ≡ Err flaw)

-- the sums in the notes leave room to count the bookings of this many further blocks without
-- overflow
pub record Counting (notes : Notes) (left : ℕ) : Type 0 where
  pub order : InOrder notes.items.items
  pub booked : (i : ℕ) →
      slice_index (booked_in notes.items.items) i + MOST_UNITS * left ≤ MOST_UNITS * MOST_BLOCKS
  pub bookings : notes.tally.bookings + MOST_UNITS * left ≤ MOST_UNITS * MOST_BLOCKS
  pub billed :
      notes.tally.billed + MOST_UNITS * MOST_AMOUNT * left ≤ MOST_UNITS * MOST_AMOUNT * MOST_BLOCKS

-- the two notes have the same items
pub record SameItems (notes notes' : Notes) : Type 0 where
  pub keys : keys_in notes'.items.items ≡ keys_in notes.items.items
  pub blocks : blocks_in notes'.items.items ≡ blocks_in notes.items.items
  pub used : notes'.tally.used ≡ notes.tally.used
  pub free : notes'.tally.free ≡ notes.tally.free
  pub total : notes'.tally.total ≡ notes.tally.total

-- the bookings of these rows were counted into the notes
pub record BookingsCounted (m : ℕ → ℕ) (notes notes' : Notes) (rs : Rows) : Type 0 where
  pub items : SameItems notes notes'
  pub booked : (i : ℕ) → i < length notes.items.items →
      slice_index (booked_in notes'.items.items) i ≡ slice_index (booked_in notes.items.items) i
      + units_in m (slice_index (codes_in notes.items.items) i) rs
  pub bookings : notes'.tally.bookings ≡ notes.tally.bookings + sum_by (λ r. m (r.1 + 4)) rs
  pub billed : notes'.tally.billed ≡ notes.tally.billed + sum_by (λ r. m (r.1 + 2)) rs

-- a list of bookings was walked and its units were counted: the result, the marks and the notes
-- are those of the definition
abbrev pub BookingsRan : List ℕ → List Bool → List Bool → Notes → Notes → ℕ →
    Result ⊤ Flaw → Type 0
BookingsRan words marks marks' notes notes' head result =
    (tables : ℕ → Rows) → IsIndex (codes_in notes.items.items) tables →
    (seen : List ℕ) → Marks marks seen → MatchResult result
    (λ _. (x : Rows × List ℕ) × ((booking_list words (length marks) tables head seen ≡ Ok x)
    × Marks marks' x.1 × BookingsCounted (slice_index words) notes notes' x.0))
    (λ flaw. booking_list words (length marks) tables head seen ≡ Err flaw)
